pub mod FirstLetters
pub mod Pairs
pub mod Phases
pub mod Stages
pub mod Queues
pub mod Outboxes
pub mod Ranks
pub mod PhasedPeers
