pub mod Spending
pub mod Subscribed
