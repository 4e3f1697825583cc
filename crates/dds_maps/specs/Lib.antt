pub mod Judge
pub mod Own
