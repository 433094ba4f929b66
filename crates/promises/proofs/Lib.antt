pub mod Worked
pub mod Tell
pub mod Determine
pub mod Demands
pub mod RuledOut
pub mod Walking
pub mod Combination
