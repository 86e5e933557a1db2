-- Status: the exit status of `rdump read` and of `rdump fetch`, if they fail.
pub mod Status
