pub mod Forest
pub mod Orders
pub mod Pages
pub mod BlocksAlone
pub mod OnPages
