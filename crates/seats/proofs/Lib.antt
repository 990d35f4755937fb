-- The theorems on the calls.
pub mod Cases
pub mod Names
pub mod Refusal
pub mod Laws
pub mod Promise
pub mod Runs
pub mod Chains
pub mod Asked
pub mod Turned
pub mod Rules
pub mod SeatRules
pub mod PairRules
pub mod Table
pub mod Proper
pub mod Witness
