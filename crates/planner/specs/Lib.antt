-- What the calls and the parts of the planner promise; document 01's own definitions stand in crate planner_rules.
pub mod Promises
