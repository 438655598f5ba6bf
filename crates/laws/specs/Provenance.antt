-- The trail and the origins that it tells.
pub mod Copies
pub mod Trail
pub mod Recording
pub mod Origins
pub mod Handed
pub mod PlanTrail
pub mod OneOrigin
