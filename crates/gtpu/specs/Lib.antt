-- GTP-U: message types, the information elements of an Error Indication, and the tunnel that they name.
pub mod Message
pub mod Element
pub mod Indication
pub mod Firsts
pub mod Answer
pub mod Claims
pub mod Tunnels
