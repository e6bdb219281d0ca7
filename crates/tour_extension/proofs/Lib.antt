mod Queues
mod Choosing
mod SumLemmas
mod SetTests
mod MemberTests
mod Standing
mod Promising
mod BackSteps
mod Midway
mod LeaveSteps
mod BoardSteps
mod StepForth
pub mod Extended
mod LeaveLemmas
pub mod NodeDemands
