pub mod RunQuotas
