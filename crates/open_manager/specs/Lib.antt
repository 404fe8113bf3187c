pub mod Lists
pub mod Writers
pub mod Records
pub mod Order
pub mod RollBack
pub mod Open
pub mod Laws
