-- The two parts of the hop by a morning sheet joined. The first part has held the sheet against the
-- list, the second has looked at the sheet by itself: a sheet is taken where both find no fault.
use Rattle.std.proofs.Common.{◌≡◌, refl, Bool, true, false, true≢false, List, [], ◌∷◌, ◌↔◌, ◌⊎◌, inl, inr, ℕ, ◌*◌, length, arith}
use Rattle.std.proofs.Math.Decide.{ℕ_discrete}
use Rattle.std.specs.Prelude.{Result, Ok, Err, IfOk}
use Rattle.std.proofs.lemmas.Result.{err_from_is_err_and}
use Rattle.field.specs.declared.Size.{Size}
use Rattle.field.specs.declared.Hops.{Hops}
use Rattle.field.specs.declared.Hops.TheVariants.{There, One, Two}
use Rattle.field.specs.declared.refusals.Refusal.{Refusal}
use Rattle.field.specs.declared.refusals.Refusal.TheVariants.{NotTaken}
use Rattle.field.specs.Refusals.{sheet_not_taken, number_of, told}
use Rattle.field.specs.Hops.{Answers, there, one, two}
use Rattle.field.specs.Morning.{RocksShown}
use Rattle.taking.specs.Promise.{Steady}
use Rattle.markers.specs.List.{WellFormed}
use Rattle.calls.specs.Rules
use Rattle.calls.specs.Rules.{LentMap, Formed, RocksOf, Gives, Misfit, rule}
use Rattle.calls.specs.RuleLaws.{None, gives_none, gives_reworded, gives_early, gives_later, same, holds, on_holds}
use Rattle.calls.specs.HopByCall.{ShownOn, hop_by_rows, hop_by_table, HopByCall}
use Rattle.calls.specs.Told.{hops_named, homeward_of}
use Rattle.sheets.specs.Promise.{Of}
use Rattle.judging.specs.Judging.{asking_judged}
use Rattle.askings.specs.Morning.{MayHopBy, HopByRest}
use Rattle.layer.specs.Prepared.{asking_found}
use Rattle.layer.specs.Morning.{early_table, shown_rule, looked_table, Looked}
use Rattle.layer.proofs.Tables.{not_no, asking_gives}
use Rattle.layer.proofs.Joining.{Handed, some_number}

-- No sheet but this one is lent.
no_others : (m : LentMap) (sheet : List ℕ) → ((¬ (length sheet ≡ m.height * m.width)) ⊎ (true ≡ false)) ↔ Misfit m.width m.height (sheet ∷ [])
no_others m sheet = (there_one, back)
  where
    there_one : (¬ (length sheet ≡ m.height * m.width)) ⊎ (true ≡ false) → Misfit m.width m.height (sheet ∷ [])
    there_one (inl f) = inl f
    there_one (inr e) = absurd (true≢false e)

    back : Misfit m.width m.height (sheet ∷ []) → (¬ (length sheet ≡ m.height * m.width)) ⊎ (true ≡ false)
    back (inl f) = inl f
    back (inr e) = absurd e

-- The first part. `well` tells whether the list is well formed.
module _ (m : LentMap) (sheet : List ℕ) {well : Bool} (formed : (well ≡ true) ↔ Formed m) {hx hy x y : ℕ} where
  early : (n : ℕ) → Gives (asking_judged m.width m.height (length sheet) true well hx hy x y) n → Gives (early_table m hx hy x y sheet) n
  early n g =
      gives_reworded (asking_found m hx hy x y true sheet) (early_table m hx hy x y sheet) n
      (refl, same, λ _. (refl, no_others m sheet, λ _. (refl, same, λ _. (refl, same, λ _. tt)))) (asking_gives m sheet formed n g)

  -- Refused before.
  pub looked_refused : (e : Refusal) (r : Result Size Refusal) → Gives (asking_judged m.width m.height (length sheet) true well hx hy x y) (number_of e) → Handed e r
      → Looked m hx hy x y sheet r
  looked_refused e r j f =
      let q = err_from_is_err_and r f.1 in
      rw (q.1, q.2)
      (record { given = gives_early (early_table m hx hy x y sheet) (shown_rule m sheet ∷ []) (number_of e) (early (number_of e) j) (some_number e); size = tt })

  module _ (j : Gives (asking_judged m.width m.height (length sheet) true well hx hy x y) 0) {map : Size} (o : Of m.width m.height map) where
    none_early : None (early_table m hx hy x y sheet)
    none_early = gives_none (early_table m hx hy x y sheet) 0 0 (omega arith) (early 0 j) refl

    -- The sheet fits, and the list is well formed.
    pub judged_fits : length sheet ≡ map.h * map.w
    judged_fits = rw (o.width, o.height) (holds (ℕ_discrete _ _) (λ f. none_early.1.0 (inl f)))

    pub judged_formed : WellFormed map.w map.h m.list m.count
    judged_formed =
        let free = gives_none (asking_judged m.width m.height (length sheet) true well hx hy x y) 0 0 (omega arith) j refl in
        rw (o.width, o.height) (formed.0 (not_no well free.1.1.0))

    -- A rock is shown open, and none is.
    pub looked_fault : ¬ RocksShown (RocksOf m) map.w map.h sheet → Looked m hx hy x y sheet (Err NotTaken)
    looked_fault f =
        let k = rw (o.width, o.height) at f in
        record { given = gives_later (early_table m hx hy x y sheet) (shown_rule m sheet ∷ []) sheet_not_taken none_early (inl (k, refl)); size = tt }

    pub looked_passes : RocksShown (RocksOf m) map.w map.h sheet → Looked m hx hy x y sheet (Ok map)
    looked_passes s =
        let k = rw (o.width, o.height) at s in
        record { given = gives_later (early_table m hx hy x y sheet) (shown_rule m sheet ∷ []) 0 none_early (inr (λ f. f k, refl)); size = o }

module _ {m : LentMap} {hx hy x y : ℕ} {sheet : List ℕ} where
  hop_by_call : (r : Result Hops Refusal) → Gives (hop_by_table m hx hy x y sheet) (told r)
      → IfOk r (λ a. Answers m.width m.height (ShownOn m sheet) hx hy x y (hops_named a)) → HopByCall m hx hy x y sheet (homeward_of r)
  hop_by_call (Ok There) g k = record { given = g; refused = λ f. absurd (f refl); done = λ _. record { answer = there; answers = k; is = refl } }
  hop_by_call (Ok (One p)) g k = record { given = g; refused = λ f. absurd (f refl); done = λ _. record { answer = one p.x p.y; answers = k; is = refl } }
  hop_by_call (Ok (Two p v)) g k = record { given = g; refused = λ f. absurd (f refl); done = λ _. record { answer = two p.x p.y v.x v.y; answers = k; is = refl } }
  hop_by_call (Err e) g k = record { given = g; refused = λ _. refl; done = λ z. absurd (some_number e z) }

  -- A rock shown open is a fault of the sheet taken.
  pub hop_by_refused : {e : Refusal} (r : Result Hops Refusal) → Looked m hx hy x y sheet (Err e) → Handed e r → HopByCall m hx hy x y sheet (homeward_of r)
  hop_by_refused {e} r l f = let q = err_from_is_err_and r f.1 in rw (q.1, q.2) (hop_by_call (Err e) (go l.given) tt)
    where
      go : Gives (looked_table m hx hy x y sheet) (number_of e) → Gives (hop_by_table m hx hy x y sheet) (number_of e)
      go (inl p) = inl p
      go (inr (a, inl p)) = inr (a, inl p)
      go (inr (a, inr (b, inl p))) = inr (a, inr (b, inl p))
      go (inr (a, inr (b, inr (c, inl p)))) = inr (a, inr (b, inr (c, inl p)))
      go (inr (a, inr (b, inr (c, inr (d, inl p))))) = inr (a, inr (b, inr (c, inr (d, inl (λ t. p.0 t.rocks, p.1)))))
      go (inr (a, inr (b, inr (c, inr (d, inr p))))) = absurd (some_number e p.1)

  module _ {map : Size} (l : Looked m hx hy x y sheet (Ok map)) where
    passed : None (looked_table m hx hy x y sheet)
    passed = gives_none (looked_table m hx hy x y sheet) 0 0 (omega arith) l.given refl

    pub looked_fits : length sheet ≡ map.h * map.w
    looked_fits = rw (l.size.width, l.size.height) (holds (ℕ_discrete _ _) (λ f. passed.1.0 (inl f)))

    pub hop_by_may : MayHopBy map.w map.h hx hy x y
    hop_by_may = rw (l.size.width, l.size.height) (record { home = on_holds (λ f. passed.1.1.1.0 (inl f)); on = on_holds (λ f. passed.1.1.1.0 (inr f)) })

    -- Where the first part found no fault, the sheet is taken exactly if it has none by itself.
    own_rows : (k : ℕ) → Gives (rule sheet_not_taken (¬ Steady m.width m.height sheet) ∷ Rules.hop_rows m.width m.height (ShownOn m sheet) hx hy x y) k
        → Gives (hop_by_rows m hx hy x y sheet) k
    own_rows k (inl p) = inl (λ t. p.0 (record { bytes = t.bytes; none_between = t.none_between }), p.1)
    own_rows k (inr p) =
        inr (λ f. p.0 (λ s. passed.1.1.1.1.0 (λ r. f (record { bytes = s.bytes; rocks = r; none_between = s.none_between }))), p.1)

    pub hop_by_joined : (r : Result Hops Refusal) → HopByRest map.w map.h hx hy x y sheet r → HopByCall m hx hy x y sheet (homeward_of r)
    hop_by_joined r e =
        let k : HopByRest m.width m.height hx hy x y sheet r = rw (l.size.width, l.size.height) at e in
        hop_by_call r (inr (passed.0, inr (passed.1.0, inr (passed.1.1.0, inr (passed.1.1.1.0, own_rows (told r) k.given))))) k.answer
