-- The definitions that the contracts and the laws cite.
pub mod Constants
pub mod Pick
pub mod Root
pub mod RootSteps
pub mod Threshold
pub mod ThresholdSteps
pub mod Whole
pub mod WholeSteps
pub mod Yard
