-- Each name has its object in every state of a run, and links stay within each object. Stands on `closed`, and on the
-- rows of each event in the files beside the folder.
pub mod NamedStates
pub mod NamedRows
pub mod NamedEvents
