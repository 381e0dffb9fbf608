pub mod Vote
pub mod Members
pub mod Reports
pub mod Asked
