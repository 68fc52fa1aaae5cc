-- A refusal's line and the one that says long, byte by byte: what the words above come to.
use Rattle.std.specs.Prelude.{◌≡◌, refl, List, [], ◌∷◌, ◌++◌, ℕ}
use Rattle.std.proofs.Common.{arith}
use Rattle.writer.specs.Digits.{digits_of}
use Rattle.printing.specs.Printed.{Printed, refused, long, RefusalLine}
use Rattle.printing.specs.PrintLaws.{digits_printed}

pub printed_12 : Printed 12 (49 ∷ 50 ∷ [])
unfolding digits_of
printed_12 = digits_printed {v = 12} {n = 2} (record { some = omega arith; enough = omega arith; needed = λ l. omega arith })

-- 'refused 12', with LF after it.
abbrev pub refused_12 : List ℕ
refused_12 = 114 ∷ 101 ∷ 102 ∷ 117 ∷ 115 ∷ 101 ∷ 100 ∷ 32 ∷ 49 ∷ 50 ∷ 10 ∷ []

pub refused_12_is : RefusalLine 12 refused_12
refused_12_is = record { digits = 49 ∷ 50 ∷ []; printed = printed_12; is = refl }

-- 'refused long', with LF after it.
abbrev pub refused_long : List ℕ
refused_long = 114 ∷ 101 ∷ 102 ∷ 117 ∷ 115 ∷ 101 ∷ 100 ∷ 32 ∷ 108 ∷ 111 ∷ 110 ∷ 103 ∷ 10 ∷ []

pub refused_long_is : refused ++ long ≡ refused_long
refused_long_is = refl
