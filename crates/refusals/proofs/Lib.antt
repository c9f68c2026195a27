-- Laws on the numbers of refusals.
pub mod Numbers
