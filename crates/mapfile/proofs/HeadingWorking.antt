-- Reading a header of so many numbers agrees with the grammar both ways.
use Rattle.std.specs.Prelude.{◌≡◌, refl, List, [], ◌∷◌, ◌++◌, ℕ, zero, suc, length}
use Rattle.std.proofs.Common.{sym, ap, subst, ◌∙◌, arith}
use Rattle.std.proofs.Math.Option.{Option, none, some}
use Rattle.mapfile.specs.Header.{Header}
use Rattle.mapfile.specs.HeaderWorking.{Value, value, no_value, next_number, last_blank, GivesNumbers}
use Rattle.mapfile.proofs.HeaderSound.{header_sound}
use Rattle.mapfile.proofs.HeaderComplete.{header_complete}
use Rattle.mapfile.proofs.HeaderLaws.{headers_one}
use Rattle.mapfile.specs.HeadingWorking.{Heading, heading, no_heading, lastly, onto, and_then, heading_of, onto_all, HeadingTold}

abbrev Given : ℕ → List ℕ → Heading → Type 0
Given n l (heading vs rest) = (length vs ≡ n) × GivesNumbers vs l rest
Given n l no_heading = (vs rest : List ℕ) → length vs ≡ n → ¬ GivesNumbers vs l rest

none_some : {A : Type 0} {a : A} → none ≡ some a → ⊥
none_some e = let z : ◌≡◌ {A = ℕ} 0 1 = cc in omega arith

no_value_value : {v : ℕ} {l : List ℕ} → no_value ≡ value v l → ⊥
no_value_value e = let z : ◌≡◌ {A = ℕ} 0 1 = cc in omega arith

last_given : (l : List ℕ) (o : Option (List ℕ)) → last_blank l ≡ o → Given 0 l (lastly o)
unfolding lastly GivesNumbers
last_given l none e = absent
  where
    absent : (vs rest : List ℕ) → length vs ≡ 0 → ¬ GivesNumbers vs l rest
    absent [] rest n g = none_some (sym e ∙ g)
    absent (v ∷ vs) rest n g = absurd (omega arith)
last_given l (some rest) e = (refl, e)

onto_given : (n : ℕ) (l m : List ℕ) (v : ℕ) → next_number l ≡ value v m → (k : Heading) → Given n m k → Given (suc n) l (onto v k)
unfolding onto GivesNumbers
onto_given n l m v e (heading vs rest) g = (omega (arith, g.0), (m, e, g.1))
onto_given n l m v e no_heading g = absent
  where
    absent : (vs rest : List ℕ) → length vs ≡ suc n → ¬ GivesNumbers vs l rest
    absent [] rest s k = absurd (omega arith)
    absent (u ∷ us) rest s k =
        let first : value v m ≡ value u k.0 = sym e ∙ k.1 in
        let same : k.0 ≡ m = cc in
        g us rest (omega arith) (subst (λ (t : List ℕ). GivesNumbers us t rest) same k.2)

then_given : (n : ℕ) (l : List ℕ) (more : List ℕ → Heading) → ((m : List ℕ) → Given n m (more m)) → (o : Value) → next_number l ≡ o
    → Given (suc n) l (and_then o more)
unfolding and_then GivesNumbers
then_given n l more g (value v m) e = onto_given n l m v e (more m) (g m)
then_given n l more g no_value e = absent
  where
    absent : (vs rest : List ℕ) → length vs ≡ suc n → ¬ GivesNumbers vs l rest
    absent [] rest s k = absurd (omega arith)
    absent (u ∷ us) rest s k = no_value_value (sym e ∙ k.1)

heading_given : (n : ℕ) (l : List ℕ) → Given n l (heading_of n l)
unfolding heading_of
heading_given zero l = last_given l (last_blank l) refl
heading_given (suc n) l = then_given n l (heading_of n) (heading_given n) (next_number l) refl

given_told : (n : ℕ) (l : List ℕ) (k : Heading) → Given n l k → HeadingTold n l k
given_told n l (heading vs rest) g = (g.0, header_sound vs l rest g.1)
given_told n l no_heading g = λ vs rest s h. g vs rest s (header_complete h)

pub heading_told : (n : ℕ) (l : List ℕ) → HeadingTold n l (heading_of n l)
heading_told n l = given_told n l (heading_of n l) (heading_given n l)

-- Step by step: a number more, no number, the last blank or none.
pub onto_more : (vs : List ℕ) (v : ℕ) (k : Heading) → onto_all (vs ++ v ∷ []) k ≡ onto_all vs (onto v k)
unfolding onto_all
onto_more [] v k = refl
onto_more (u ∷ vs) v k = ap (onto u) (onto_more vs v k)

pub onto_none : (vs : List ℕ) → onto_all vs no_heading ≡ no_heading
unfolding onto_all onto
onto_none [] = refl
onto_none (v ∷ vs) = ap (onto v) (onto_none vs)

pub onto_last : (vs rest : List ℕ) → onto_all vs (heading [] rest) ≡ heading vs rest
unfolding onto_all onto
onto_last [] rest = refl
onto_last (v ∷ vs) rest = ap (onto v) (onto_last vs rest)

pub heading_more : (n : ℕ) (l m : List ℕ) (v : ℕ) → next_number l ≡ value v m → heading_of (suc n) l ≡ onto v (heading_of n m)
unfolding heading_of and_then
heading_more n l m v e = ap (λ (o : Value). and_then o (heading_of n)) e

pub heading_none : (n : ℕ) (l : List ℕ) → next_number l ≡ no_value → heading_of (suc n) l ≡ no_heading
unfolding heading_of and_then
heading_none n l e = ap (λ (o : Value). and_then o (heading_of n)) e

pub heading_last : (l rest : List ℕ) → last_blank l ≡ some rest → heading_of 0 l ≡ heading [] rest
unfolding heading_of lastly
heading_last l rest e = ap lastly e

pub heading_no_last : (l : List ℕ) → last_blank l ≡ none → heading_of 0 l ≡ no_heading
unfolding heading_of lastly
heading_no_last l e = ap lastly e

-- Completeness: a header is read as its numbers and its rest.
pub heading_found : {vs l rest : List ℕ} → Header vs l rest → heading_of (length vs) l ≡ heading vs rest
heading_found {vs} {l} {rest} h = go (heading_of (length vs) l) (heading_told (length vs) l)
  where
    go : (k : Heading) → HeadingTold (length vs) l k → k ≡ heading vs rest
    go (heading us other) t =
        let e = headers_one t.0 t.1 h in
        let p : us ≡ vs = e.0 in
        let q : other ≡ rest = e.1 in
        cc
    go no_heading t = absurd (t vs rest refl h)
