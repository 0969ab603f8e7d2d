pub mod PlanLaws
pub mod GivenLaws
pub mod AddPlan
pub mod RemovePlan
pub mod ReplacePlan
pub mod LinkPlan
