pub mod CallTable
