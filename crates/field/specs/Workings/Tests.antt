-- Laws of tests and of what they tell, which say nothing of maps: a test's answer as a number,
-- tests joined by "and" and "or", a choice that a test makes, a test that decides, a thing of which
-- there is one.
use Rattle.std.specs.Prelude.{◌≡◌, refl, Bool, true, false, cond, ◌&&◌, ◌||◌, ◌⊎◌, ◌↔◌, ◌≢◌, ℕ, ◌<◌, ◌≤◌, eqb}
use Rattle.std.proofs.Common.{sym, subst, ap, inl, inr, arith, ne_eqb}
use Rattle.std.proofs.lemmas.Bool.{false≢true, eqb-false}

-- A test's answer as a number.
abbrev pub bit : Bool → ℕ
bit true = 1
bit false = 0

pub bit_le : (b : Bool) → bit b ≤ 1
bit_le true = omega arith
bit_le false = omega arith

pub bit_true : (b : Bool) → 0 < bit b → b ≡ true
bit_true true l = refl
bit_true false l = absurd (omega arith)

pub true_bit : {b : Bool} → b ≡ true → 0 < bit b
true_bit e = omega (arith, ap bit e)

-- Both tests pass, or one of them does.
pub and_split : (a b : Bool) → (a && b) ≡ true → (a ≡ true) × (b ≡ true)
and_split true b e = (refl, e)
and_split false b e = absurd (false≢true e)

pub and_both : (a b : Bool) → a ≡ true → b ≡ true → (a && b) ≡ true
and_both a b p q = simp (p, q)

pub or_case : {P : Type 0} (a b : Bool) → (a ≡ true → P) → (b ≡ true → P) → (a || b) ≡ true → P
or_case true b f g e = f refl
or_case false b f g e = g e

pub or_split : (a b : Bool) → (a || b) ≡ true → (a ≡ true) ⊎ (b ≡ true)
or_split a b = or_case a b inl inr

pub or_left : (a b : Bool) → a ≡ true → (a || b) ≡ true
or_left a b e = rw e

pub or_right : (a b : Bool) → b ≡ true → (a || b) ≡ true
or_right true b e = refl
or_right false b e = e

-- By cases on a test, and what holds of either choice that it makes.
pub test_cases : {P : Type 0} (b : Bool) → (b ≡ true → P) → (b ≡ false → P) → P
test_cases true f g = f refl
test_cases false f g = g refl

pub cond_cases : {A : Type 0} (P : A → Type 0) (b : Bool) {s r : A} → (b ≡ true → P s) → (b ≡ false → P r) → P (cond b s r)
cond_cases P true f g = f refl
cond_cases P false f g = g refl

-- What is not 0 has passed the test before it.
pub cond_some : (b : Bool) (v : ℕ) → 0 < cond b v 0 → b ≡ true
cond_some true v l = refl
cond_some false v l = absurd (omega arith)

-- A test that is made only where p is not d.
pub off_looks : {P : Type 0} (b : Bool) → (P ↔ b ≡ true) → (p d : ℕ) → (((p ≢ d) × P) ↔ cond (eqb p d) false b ≡ true)
off_looks {P} b f p d = (
  λ o. rw (ne_eqb p d o.0) (f.0 o.1),
  cond_cases (λ t. t ≡ true → (p ≢ d) × P) (eqb p d) (λ e q. absurd (false≢true q)) (λ e q. (eqb-false p d e, f.1 q)),
)

-- What a test tells can be decided.
pub test_dec : {P : Type 0} (b : Bool) → (P ↔ b ≡ true) → Dec P
test_dec true f = yes (f.1 refl)
test_dec false f = no (λ p. false≢true (f.0 p))

-- Where P holds of v and of one thing alone, it says of n that n is v.
pub only : {A : Type 0} (P : A → Type 0) (v : A) → P v → ((n m : A) → P n → P m → n ≡ m) → (n : A) → (P n ↔ n ≡ v)
only P v p one n = (λ q. one n v q p, λ e. subst P (sym e) p)
