pub mod ValuePhases
pub mod ValueStages
pub mod ValueKinds
pub mod Laws
