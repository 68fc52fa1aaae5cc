-- The three numbers word after word and row after row: none yet, and one word or row more.
use Rattle.std.proofs.Common.{◌≡◌, List, ℕ, ◌+◌, sym, arith}
use Rattle.std.specs.Int.Count.{ones}
use Rattle.field.specs.declared.Labelled.{Labelled}
use Rattle.field.specs.Labels.{sum_to}
use Rattle.bits.specs.Ones.{sum_none, sum_next}
use Rattle.rows.specs.Layout.{words_of}
use Rattle.rows.specs.Rows.{word_at}
use Rattle.labels.specs.Counting.{shut_at, corners_at, Summed, CountedWord, CountedTo, CountedRow, Counted}

abbrev pub none : Labelled
none = record { rocks = 0; shut = 0; groups = 0 }

pub words_none : {y : ℕ} {rock c : List ℕ} → CountedTo 0 y rock c none
words_none =
    record { rocks = sym (sum_none _); shut = sym (sum_none _); groups = sym (sum_none _); most_rocks = omega arith; most_shut = omega arith; most_groups = omega arith }

pub words_next : {n y : ℕ} {rock c : List ℕ} {r q s : Labelled} → CountedTo n y rock c r → CountedWord y n rock c q → Summed r q s → CountedTo (n + 1) y rock c s
words_next {n} {y} {rock} {c} k l e =
    record {
      rocks = omega (arith, e.rocks, k.rocks, l.rocks, sum_next n (λ j. ones (word_at rock y j)));
      shut = omega (arith, e.shut, k.shut, l.shut, sum_next n (λ j. ones (shut_at rock c y j)));
      groups = omega (arith, e.groups, k.groups, l.groups, sum_next n (λ j. ones (corners_at c y j)));
      most_rocks = omega (arith, e.rocks, k.most_rocks, l.most_rocks);
      most_shut = omega (arith, e.shut, k.most_shut, l.most_shut);
      most_groups = omega (arith, e.groups, k.most_groups, l.most_groups);
    }

-- One word is the whole row.
pub one_word : {n y : ℕ} {rock c : List ℕ} {r : Labelled} → n ≡ 0 + 1 → CountedWord y 0 rock c r → CountedTo n y rock c r
one_word {n} {y} {rock} {c} {r} e k = rw e (words_next words_none k (record { rocks = omega arith; shut = omega arith; groups = omega arith }))

pub rows_none : {w : ℕ} {rock c : List ℕ} → Counted w 0 rock c none
rows_none = record { rocks = sym (sum_none _); shut = sym (sum_none _); groups = sym (sum_none _) }

pub rows_next : {w h : ℕ} {rock c : List ℕ} {r q s : Labelled} → Counted w h rock c r → CountedRow w h rock c q → Summed r q s → Counted w (h + 1) rock c s
rows_next {w} {h} {rock} {c} k l e =
    record {
      rocks = omega (arith, e.rocks, k.rocks, l.rocks, sum_next h (λ y. sum_to (words_of w) (λ j. ones (word_at rock y j))));
      shut = omega (arith, e.shut, k.shut, l.shut, sum_next h (λ y. sum_to (words_of w) (λ j. ones (shut_at rock c y j))));
      groups = omega (arith, e.groups, k.groups, l.groups, sum_next h (λ y. sum_to (words_of w) (λ j. ones (corners_at c y j))));
    }
