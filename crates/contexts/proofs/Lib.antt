-- Why climbing and the sweeps give what the context rule asks for. Assumes nothing.
pub mod AheadLaws
pub mod ClimbLaws
pub mod DistanceLaws
pub mod FarLaws
pub mod ForkLaws
pub mod LinkLaws
pub mod NearLaws
pub mod ChainLaws
pub mod JoinLaws
pub mod ReadyLaws
pub mod RoundLaws
pub mod SweepLaws
pub mod TreeLaws
