-- From the parts of writing to the call's promise. The first part's refusals are rows 1 and 3 of
-- the table: the sheet is of the map's size and no place is asked. The second part's is row 16: all
-- markers are stamped, and the marks are as many exactly where no two share one. The third part's
-- is row 17: the rocks are stamped over them, and the sheet's marks are these.
use Rattle.std.specs.Prelude.{◌≡◌, refl, Bool, true, false, List, [], ◌∷◌, ◌↔◌, ◌⊎◌, ℕ, ◌+◌, ◌*◌, ◌-◌, ◌<◌, length, Result, Ok, Err, IfOk}
use Rattle.std.proofs.Common.{sym, ap, ◌∙◌, true≢false, inl, inr, arith}
use Rattle.field.specs.declared.Size.{Size}
use Rattle.field.specs.declared.refusals.Refusal.{Refusal}
use Rattle.field.specs.Map.{On}
use Rattle.field.specs.Refusals.{success, bad_size, bad_list, shared_crossing, number_of, told}
use Rattle.field.specs.Workings.Sheet.{Marked}
use Rattle.mapfile.specs.Written.{Written}
use Rattle.sheets.specs.Promise.{Fits, Of}
use Rattle.records.specs.Promise.{StampedWith}
use Rattle.calls.specs.Rules
use Rattle.calls.specs.Rules.{LentMap, Sized, OnIt, Formed, RocksOf, Gives, Shared, TooShort}
use Rattle.calls.specs.Parts.{before}
use Rattle.calls.specs.RuleLaws.{sides_hold, formed_holds}
use Rattle.calls.specs.Calls.{WriteCall}
use Rattle.calls.specs.Told.{wrote_map}
use Rattle.exchange.specs.Promise.{Area, SharedTold, WriteRest}
use Rattle.layer.specs.Prepared.{asking_found, Prepared}
use Rattle.layer.specs.Told.{some_number}
use Rattle.layer.specs.Sharing.{marks_apart, marks_shared}

-- What is written depends only on which crossings of the map are rocks.
pub written_moved : {w h : ℕ} {R S : ℕ → ℕ → Type 0} {file : List ℕ} → ((x y : ℕ) → On w h x y → (R x y ↔ S x y)) → Written w h R file → Written w h S file
written_moved {w} {h} same p =
    record {
      width = p.width;
      height = p.height;
      rows = p.rows;
      width_is = p.width_is;
      height_is = p.height_is;
      rows_are = record {
        size = p.rows_are.size;
        bytes = p.rows_are.bytes;
        rock = λ r x a b s. p.rows_are.rock r x a b ((same x (h - (r + 1)) (here r x a b)).1 s);
        free = λ r x a b n. p.rows_are.free r x a b (λ s. n ((same x (h - (r + 1)) (here r x a b)).0 s));
        pad = p.rows_are.pad;
      };
      is = p.is;
    }
  where
    here : (r x : ℕ) → r < h → x < w → On w h x (h - (r + 1))
    here r x a b = record { in_x = b; in_y = omega arith }

-- What the first two parts answer together: the map's size where neither refuses, and else the
-- refusal of the earlier one that does, which `?` hands on.
abbrev pub both : Result Size Refusal → Result Unit Refusal → Result Size Refusal
both (Ok map) (Ok _) = Ok map
both (Ok _) (Err e) = Err e
both (Err e) _ = Err e

-- The third part comes where the first two refuse nothing. Where they refuse, their refusal is the
-- call's answer, and no byte is changed.
abbrev pub WriteLast : Result Size Refusal → List ℕ → List ℕ → List ℕ → Result ℕ Refusal → Type 0
WriteLast (Ok map) stamped out out' r = WriteRest map.w map.h stamped out out' r
WriteLast (Err e) stamped out out' r = (out' ≡ out) × (r ≡ Err e)

-- The third part's row, after parts that gave k: it is told by the marks of the sheet on which the
-- rocks are stamped.
abbrev pub Third : LentMap → ℕ → List ℕ → List ℕ → ℕ → Type 0
Third m k stamped out n = Gives (before k ∷ Rules.output_rule m.width m.height (Marked stamped m.width m.height) out ∷ []) n

-- What the first part tells: the map's size is against the limits, or the list is not well formed,
-- or nothing is refused.
pub data First (m : LentMap) (n : ℕ) : Type 0 where
  no_size : ¬ Sized m → n ≡ bad_size → First m n
  no_list : Sized m → ¬ Formed m → n ≡ bad_list → First m n
  passed : Sized m → Formed m → n ≡ success → First m n

-- And with it the second: two markers share a crossing, or no two do.
pub data Second (m : LentMap) (n : ℕ) : Type 0 where
  no_size : ¬ Sized m → n ≡ bad_size → Second m n
  no_list : Sized m → ¬ Formed m → n ≡ bad_list → Second m n
  two_share : Sized m → Formed m → Shared m.list m.count → n ≡ shared_crossing → Second m n
  passed : Sized m → Formed m → ¬ Shared m.list m.count → n ≡ success → Second m n

-- Either time that a sheet is stamped, with low markers or without.
module _ {m : LentMap} {low : Bool} {r : Result Size Refusal} {sheet sheet' : List ℕ} (area : Area m.width m.height (length sheet)) (p : Prepared m low 0 0 0 0 true sheet sheet' r) where
  pub first : First m (told r)
  first = go p.given
    where
      origin : Sized m → OnIt m 0 0
      origin s = record { in_x = s.some_w; in_y = s.some_h }

      fits : ¬ ¬ Sized m → (¬ (length sheet ≡ m.height * m.width)) ⊎ (true ≡ false) → ⊥
      fits s (inl f) = f (area.is (sides_hold s))
      fits s (inr f) = true≢false f

      placed : ¬ ¬ Sized m → (¬ OnIt m 0 0) ⊎ (¬ OnIt m 0 0) → ⊥
      placed s (inl o) = o (origin (sides_hold s))
      placed s (inr o) = o (origin (sides_hold s))

      go : Gives (asking_found m 0 0 0 0 true sheet) (told r) → First m (told r)
      go (inl q) = no_size q.0 q.1
      go (inr (s, inl q)) = absurd (fits s q.0)
      go (inr (s, inr (_, inl q))) = no_list (sides_hold s) q.0 q.1
      go (inr (s, inr (_, inr (f, inl q)))) = absurd (placed s q.0)
      go (inr (s, inr (_, inr (f, inr q)))) = passed (sides_hold s) (formed_holds f) q.1

  -- On a good map with a good list nothing is refused.
  pub good : Sized m → Formed m → told r ≡ success
  good s f = go first
    where
      go : First m (told r) → told r ≡ success
      go (no_size k e) = absurd (k s)
      go (no_list k l e) = absurd (l f)
      go (passed k l e) = e

-- A sheet's marks are the cart's rocks, where these are stamped on it: so the file over its marks
-- is the file over them, and row 17 over its marks is the list's.
module _ {m : LentMap} {stamped : List ℕ} (q : StampedWith m.width m.height m.clearance false m.list m.count stamped) where
  pub marked_rock : (x y : ℕ) → OnIt m x y → (Marked stamped m.width m.height x y ↔ RocksOf m x y)
  marked_rock x y o = (λ k. (q.rocks.sound x y k).stone, λ r. q.rocks.complete x y (record { on = o; stone = r }))

  pub carried : {file : List ℕ} → Written m.width m.height (Marked stamped m.width m.height) file ↔ Written m.width m.height (RocksOf m) file
  carried = (written_moved marked_rock, written_moved (λ x y o. ((marked_rock x y o).1, (marked_rock x y o).0)))

  pub short_both : {out : List ℕ} → TooShort m.width m.height (Marked stamped m.width m.height) out ↔ TooShort m.width m.height (RocksOf m) out
  short_both =
      (λ t. record { file = t.file; written = carried.0 t.written; short = t.short }, λ t. record { file = t.file; written = carried.1 t.written; short = t.short })

-- All markers are stamped first, and r₁ is answered. Where that is the map's size, r₂ is answered
-- by their marks.
module _ {m : LentMap} (r₁ : Result Size Refusal) (r₂ : Result Unit Refusal) {sheet marked : List ℕ} (area : Area m.width m.height (length sheet))
    (p : Prepared m true 0 0 0 0 true sheet marked r₁) (g : IfOk r₁ (λ _. SharedTold m.count marked r₂)) where
  pub second : Second m (told (both r₁ r₂))
  second = go r₁ r₂ p g (first area p)
    where
      go : (r : Result Size Refusal) (s : Result Unit Refusal) → Prepared m true 0 0 0 0 true sheet marked r → IfOk r (λ _. SharedTold m.count marked s) → First m (told r)
          → Second m (told (both r s))
      go (Ok map) s p g (no_size k d) = absurd (omega (arith, d))
      go (Ok map) s p g (no_list k f d) = absurd (omega (arith, d))
      go (Ok map) (Ok _) p g (passed k f d) = passed k f (marks_apart marked f p.left.stamped g) refl
      go (Ok map) (Err e) p g (passed k f d) = two_share k f (marks_shared marked f p.left.stamped g.0) (ap number_of g.1)
      go (Err e) s p g (no_size k d) = no_size k d
      go (Err e) s p g (no_list k f d) = no_list k f d
      go (Err e) s p g (passed k f d) = absurd (some_number e d)

  -- The size that the first part hands on is the map's.
  sized : IfOk (both r₁ r₂) (λ map. Of m.width m.height map)
  sized = go r₁ r₂ p
    where
      go : (r : Result Size Refusal) (s : Result Unit Refusal) → Prepared m true 0 0 0 0 true sheet marked r → IfOk (both r s) (λ map. Of m.width m.height map)
      go (Ok map) (Ok _) p = p.left.size
      go (Ok map) (Err e) p = tt
      go (Err e) s p = tt

  -- Where neither refuses, the rocks are stamped over the markers.
  module _ (stamped : List ℕ) (q : IfOk (both r₁ r₂) (λ map. StampedWith map.w map.h m.clearance false m.list m.count stamped)) where
    over : told (both r₁ r₂) ≡ success → StampedWith m.width m.height m.clearance false m.list m.count stamped
    over = go (both r₁ r₂) sized q
      where
        go : (b : Result Size Refusal) → IfOk b (λ map. Of m.width m.height map) → IfOk b (λ map. StampedWith map.w map.h m.clearance false m.list m.count stamped) → told b ≡ success
            → StampedWith m.width m.height m.clearance false m.list m.count stamped
        go (Ok map) o q z = rw (o.width, o.height) at q
        go (Err e) o q z = absurd (some_number e z)

    -- Where nothing is refused, the third part may write.
    pub may_write : told (both r₁ r₂) ≡ success → Fits m.width m.height stamped
    may_write z = go second
      where
        go : Second m (told (both r₁ r₂)) → Fits m.width m.height stamped
        go (no_size s e) = absurd (omega (arith, e, z))
        go (no_list s f e) = absurd (omega (arith, e, z))
        go (two_share s f t e) = absurd (omega (arith, e, z))
        go (passed s f t e) = record { sides = s; size = (over z).size }

    module _ {out : List ℕ} {n : ℕ} where
      -- The rows of all parts are the table's.
      pub table : Second m (told (both r₁ r₂)) → Third m (told (both r₁ r₂)) stamped out n → Gives (Rules.write_table m out) n
      table (no_size s d) (inl k) = inl (s, k.1 ∙ d)
      table (no_size s d) (inr k) = absurd (k.0 (λ e. omega (arith, d, e)))
      table (no_list s f d) (inl k) = inr (λ e. e s, inl (f, k.1 ∙ d))
      table (no_list s f d) (inr k) = absurd (k.0 (λ e. omega (arith, d, e)))
      table (two_share s f t d) (inl k) = inr (λ e. e s, inr (λ e. e f, inl (t, k.1 ∙ d)))
      table (two_share s f t d) (inr k) = absurd (k.0 (λ e. omega (arith, d, e)))
      table (passed s f t d) (inl k) = absurd (k.0 d)
      table (passed s f t d) (inr (_, inl k)) = inr (λ e. e s, inr (λ e. e f, inr (t, inl ((short_both (over d)).0 k.0, k.1))))
      table (passed s f t d) (inr (_, inr k)) = inr (λ e. e s, inr (λ e. e f, inr (t, inr (λ e. k.0 ((short_both (over d)).1 e), k.1))))

      -- Where nothing is refused, nothing was before.
      pub none_before : Second m (told (both r₁ r₂)) → Third m (told (both r₁ r₂)) stamped out n → n ≡ 0 → Sized m × Formed m
      none_before (no_size s d) (inl k) z = absurd (omega (arith, d, k.1, z))
      none_before (no_size s d) (inr k) z = absurd (k.0 (λ e. omega (arith, d, e)))
      none_before (no_list s f d) (inl k) z = absurd (omega (arith, d, k.1, z))
      none_before (no_list s f d) (inr k) z = absurd (k.0 (λ e. omega (arith, d, e)))
      none_before (two_share s f t d) k z = (s, f)
      none_before (passed s f t d) k z = (s, f)

    -- The call's promise.
    pub writes : {out out' : List ℕ} (r : Result ℕ Refusal) → WriteLast (both r₁ r₂) stamped out out' r → WriteCall m out out' (wrote_map r)
    writes {out} {out'} r u = go (both r₁ r₂) r sized over u (table second)
      where
        go : (b : Result Size Refusal) (r : Result ℕ Refusal) → IfOk b (λ map. Of m.width m.height map) → (told b ≡ success → StampedWith m.width m.height m.clearance false m.list m.count stamped)
            → WriteLast b stamped out out' r
            → (Third m (told b) stamped out (told r) → Gives (Rules.write_table m out) (told r))
            → WriteCall m out out' (wrote_map r)
        go (Ok map) (Ok n) o s u t =
            let v = rw (o.width, o.height) at u in
            record {
              given = t (inr (λ f. f refl, v.given));
              kept = λ f. absurd (f refl);
              refused = λ f. absurd (f refl);
              done = λ _. record { file = v.done.file; written = (carried (s refl)).0 v.done.written; counted = v.done.counted; is = v.done.is };
            }
        go (Ok map) (Err e) o s u t =
            let v = rw (o.width, o.height) at u in
            record { given = t (inr (λ f. f refl, v.given)); kept = λ _. v.kept; refused = λ _. refl; done = λ z. absurd (some_number e z) }
        go (Err e) (Ok n) o s u t = absurd (some_number e (sym (ap told u.1)))
        go (Err e) (Err d) o s u t =
            record { given = t (inl (some_number e, ap told u.1)); kept = λ _. u.0; refused = λ _. refl; done = λ z. absurd (some_number d z) }
