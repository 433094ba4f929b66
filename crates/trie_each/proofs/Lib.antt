pub mod From
pub mod Leading
pub mod Running
