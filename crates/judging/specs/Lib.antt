-- The rules that are judged on numbers and yes-or-no answers alone.
pub mod Judging
