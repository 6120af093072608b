pub mod CountLaws
pub mod FormLaws
pub mod PlanLaws
pub mod Planners
pub mod PlansKnown
pub mod Rolled
