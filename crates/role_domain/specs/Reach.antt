-- What one name reaches in a domain, found once and asked often.
pub use Rattle.role_graph.specs.Reach.{Reached, ReachesName}
