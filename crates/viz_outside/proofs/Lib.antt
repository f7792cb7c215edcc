pub mod CallLemmas
pub mod FaultLemmas
pub mod SinkLemmas
pub mod ByteLemmas
