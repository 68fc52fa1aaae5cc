-- Why a turn leaves less to do.
mod Turns
