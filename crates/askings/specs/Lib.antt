-- What an asking comes to once the rocks are stamped on the lent label sheet, or once a morning
-- sheet is held against the list.
pub mod Promise
pub mod Morning
