-- Lists of markers made slot by slot, each slot by tests on its number.
use Rattle.std.specs.Prelude.{◌≡◌, refl, List, [], ◌∷◌, ℕ, zero, suc, ◌+◌, ◌<◌, length}
use Rattle.std.proofs.Common.{ap, ◌∙◌, arith, zero-add}
use Rattle.field.specs.declared.Marker.{Marker}
use Rattle.markers.specs.List.{slot}

-- f k, f (k + 1), .., n markers.
unfoldable slots_from : ℕ → ℕ → (ℕ → Marker) → List Marker
slots_from zero k f = []
slots_from (suc n) k f = f k ∷ slots_from n (suc k) f

slots_length : (n k : ℕ) (f : ℕ → Marker) → length (slots_from n k f) ≡ n
unfolding slots_from
slots_length zero k f = refl
slots_length (suc n) k f = ap suc (slots_length n (suc k) f)

slots_from_lem : (n k : ℕ) (f : ℕ → Marker) (i : ℕ) → i < n → slot (slots_from n k f) i ≡ f (k + i)
unfolding slots_from
slots_from_lem zero k f i l = absurd (omega arith)
slots_from_lem (suc n) k f zero l = ap f (omega arith)
slots_from_lem (suc n) k f (suc i) l = slots_from_lem n (suc k) f i (omega arith) ∙ ap f (omega arith)

-- A list of n markers, by slots.
pub slots : ℕ → (ℕ → Marker) → List Marker
slots n f = slots_from n 0 f

pub slots_size : (n : ℕ) (f : ℕ → Marker) → length (slots n f) ≡ n
unfolding slots
slots_size n f = slots_length n 0 f

pub slots_at : (n : ℕ) (f : ℕ → Marker) (i : ℕ) → i < n → slot (slots n f) i ≡ f i
unfolding slots
slots_at n f i l = slots_from_lem n 0 f i l ∙ ap f (zero-add i)

-- One of two, as a test says.
pub pick : {P : Type 0} → Dec P → Marker → Marker → Marker
pick (yes p) a b = a
pick (no p) a b = b

pub pick_yes : {P : Type 0} (d : Dec P) (a b : Marker) → P → pick d a b ≡ a
unfolding pick
pick_yes (yes p) a b q = refl
pick_yes (no p) a b q = absurd (p q)

pub pick_no : {P : Type 0} (d : Dec P) (a b : Marker) → ¬ P → pick d a b ≡ b
unfolding pick
pick_no (yes p) a b q = absurd (q p)
pick_no (no p) a b q = refl
