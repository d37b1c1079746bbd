mod HeldRows
mod Noted
