-- The first two bytes and the formats' letters: the bytes begin with a format's letters exactly
-- when the first two are the same as those.
use mathlib.Core.List.{List}
use Prim.Native.Nat.{ℕ}
use lib.ListN.{drop}
use Rattle.mapfile.specs.File.{Format, plain, raw, Letters, letters_of}
use Rattle.header.specs.Letters.{SameTwo, two_first, first_two}

pub same_letters : (f : Format) (file : List ℕ) → SameTwo file (letters_of f) → Letters f file (drop 2 file)
same_letters plain file s = two_first file 80 49 s
same_letters raw file s = two_first file 80 52 s

letters_same : (f : Format) (file rest : List ℕ) → Letters f file rest → SameTwo file (letters_of f)
letters_same plain file rest e = first_two file rest 80 49 e
letters_same raw file rest e = first_two file rest 80 52 e

pub letters_neither : (file : List ℕ) → ¬ SameTwo file (letters_of plain) → ¬ SameTwo file (letters_of raw) → (f : Format) (rest : List ℕ)
    → ¬ Letters f file rest
letters_neither file p q plain rest e = p (letters_same plain file rest e)
letters_neither file p q raw rest e = q (letters_same raw file rest e)
