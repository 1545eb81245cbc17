-- The definitions of the event room.
pub mod Room
pub mod RoomLaws
pub mod Top
pub mod TopLaws
pub mod Ahead
