-- A step has one outcome: what it says, where its text ends, and every byte of the output.
use Rattle.std.specs.Prelude.{◌≡◌, refl, Bool, List, [], ◌∷◌, ◌++◌, ◌⊎◌, ℕ, ◌<◌, length, drop}
use Rattle.std.proofs.Common.{sym, ap, ◌∙◌, append-nil, inl, inr, arith, length-drop}
use Rattle.std.proofs.lemmas.Bool.{false≢true}
use Rattle.field.specs.declared.Placing.{Placing}
use Rattle.planning.specs.declared.Run.{Run}
use Rattle.planning.specs.declared.Next.{Next}
use Rattle.planning.specs.declared.Next.TheVariants.{Map, Last, More}
use Rattle.mapfile.specs.Following.{FirstRefused, FirstMap, Undecided}
use Rattle.mapfile.proofs.FollowingOutcome.{refused_fault}
use Rattle.printing.specs.Printed.{RefusalLine}
use Rattle.printing.specs.PrintLaws.{refusal_number_one, refusal_not_long, line_not_refused, put_one}
use Rattle.planning.specs.Promise.{most_maps, FourLine, Ends, all_read, bad_map, past_bytes, past_maps}
use Rattle.planning.specs.Outcome.{none_first, none_long, first_map_one, map_lines_one, ends_no_map, ends_one}
use Rattle.following.specs.Promise.{Follows}
use Rattle.planning.specs.Steps.{OneMap, RunEnds, NotYet, Stepped}

-- No bytes may follow, whether the input has ended or not.
none_follow : (ended : Bool) → Follows ended []
none_follow ended e = refl

run_same : {r q : Run} → r.maps ≡ q.maps → r.sums ≡ q.sums → r ≡ q
run_same {r} {q} a b = let e : two r.maps r.sums ≡ two q.maps q.sums = cc in e
  where
    two : ℕ → Placing → Run
    two m s = record { maps = m; sums = s }

front_empty : (l t : List ℕ) → l ++ t ≡ [] → l ≡ []
front_empty [] t e = refl
front_empty (b ∷ l) t e = let z : ◌≡◌ {A = ℕ} 0 1 = cc in absurd (omega arith)

module _ {r : Run} {src : List ℕ} {ended : Bool} where
  at_hand : {used : ℕ} {next : Run} {text : List ℕ} (m : OneMap r src ended used next text) → FirstMap src m.w m.h m.bits (drop used src)
  at_hand {used} m = rw (append-nil src, append-nil (drop used src)) at (m.first [] (none_follow ended))

  one_map_one : {used used' : ℕ} {next next' : Run} {text other : List ℕ} → OneMap r src ended used next text → OneMap r src ended used' next' other
      → (used ≡ used') × (next ≡ next') × (text ≡ other)
  one_map_one {used} {used'} a b =
      let first = first_map_one (at_hand a) (at_hand b) in
      let lines = map_lines_one first.0 first.1 first.2 a.lines b.lines in (
        omega (arith, a.within, b.within, length-drop used src, length-drop used' src, ap length first.3),
        run_same (a.counted ∙ sym b.counted) lines.0,
        lines.1,
      )

  -- A map at hand does not end the run, nor leave it open.
  map_not_last : {used : ℕ} {next : Run} {text other : List ℕ} → OneMap r src ended used next text → ¬ RunEnds r src ended other
  map_not_last m e = ends_no_map m.before (e [] (none_follow ended)) (m.first [] (none_follow ended))

  map_not_open : {used : ℕ} {next : Run} {text : List ℕ} → OneMap r src ended used next text → ¬ NotYet r src ended
  map_not_open {used} m n = go n.open_yet
    where
      go : (src ≡ []) ⊎ ((r.maps < most_maps) × Undecided src) → ⊥
      go (inl e) = none_first (rw e at (at_hand m))
      go (inr u) = u.1.unended _ _ _ _ (at_hand m).map

-- A last line of numbers is told apart from a refusal, and refusals from each other: so a run that
-- may go on and may end here does not say its last line yet.
none_told : {r : Run} {text : List ℕ} (b : ℕ) → FourLine r.sums text → ¬ Ends r.maps r.sums (b ∷ []) text
none_told b l (all_read e m) = let z : ◌≡◌ {A = ℕ} 0 1 = cc in omega arith
none_told b l (bad_map n k s f p) = line_not_refused l p.is
none_told b l (past_bytes k f e) = line_not_refused l e
none_told b l (past_maps k s e) = line_not_refused l e

same_refusal : {r : Run} {n : ℕ} {l text : List ℕ} → ¬ (l ≡ []) → RefusalLine n text → Ends r.maps r.sums l text → FirstRefused l n
same_refusal s p (all_read e m) = absurd (s e)
same_refusal s p (bad_map m k t f q) = rw (refusal_number_one refl q p) at f
same_refusal s p (past_bytes k f e) = absurd (refusal_not_long p e)
same_refusal s p (past_maps k t e) = absurd (refusal_not_long p e)

module _ {r : Run} {src : List ℕ} {ended : Bool} {text : List ℕ} (m : RunEnds r src ended text) (n : NotYet r src ended) where
  any_follow : (t : List ℕ) → Follows ended t
  any_follow t e = absurd (false≢true (sym n.goes_on ∙ e))

  told : (t : List ℕ) → Ends r.maps r.sums (src ++ t) text
  told t = m t (any_follow t)

  none_open : ¬ (src ≡ [])
  none_open e = go (rw (e) at (told [])) (rw (e) at (told (0 ∷ [])))
    where
      go : Ends r.maps r.sums [] text → Ends r.maps r.sums (0 ∷ []) text → ⊥
      go (all_read e l) f = none_told {r = r} 0 l f
      go (bad_map i k s f p) g = s refl
      go (past_bytes k f e) g = none_long f
      go (past_maps k s e) g = s refl

  some_open : ¬ ((r.maps < most_maps) × Undecided src)
  some_open (k, u) = go (rw (append-nil src) at (told []))
    where
      go : Ends r.maps r.sums src text → ⊥
      go (all_read e l) = none_open e
      go (bad_map i l s f p) = u.faultless i (λ t. refused_fault (same_refusal {r = r} (λ e. s (front_empty src t e)) p (told t)))
      go (past_bytes l f e) = omega (arith, n.few, f.0)
      go (past_maps l s e) = omega arith

  last_not_open : ⊥
  last_not_open = go n.open_yet
    where
      go : (src ≡ []) ⊎ ((r.maps < most_maps) × Undecided src) → ⊥
      go (inl e) = none_open e
      go (inr u) = some_open u

-- Two outcomes of a step are equal.
pub step_one : (r : Run) (src : List ℕ) (ended : Bool) (out : List ℕ) {a b : List ℕ} (s q : Next) → Stepped r src ended out a s → Stepped r src ended out b q → (s ≡ q) × (a ≡ b)
step_one r src ended out (Map i e n) (Map j f k) x y =
    let m = one_map_one x.right y.right in
    let put = put_one m.2 x.put y.put in
    (rw (m.0, m.1, put.0), put.1)
step_one r src ended out (Map i e n) (Last f) x y = absurd (map_not_last x.right y.right)
step_one r src ended out (Map i e n) More x y = absurd (map_not_open x.right y.0)
step_one r src ended out (Last e) (Map j f k) x y = absurd (map_not_last y.right x.right)
step_one r src ended out (Last e) (Last f) x y =
    let text = ends_one (x.right [] (none_follow ended)) (y.right [] (none_follow ended)) in
    let put = put_one text x.put y.put in
    (ap Last put.0, put.1)
step_one r src ended out (Last e) More x y = absurd (last_not_open x.right y.0)
step_one r src ended out More (Map j f k) x y = absurd (map_not_open y.right x.0)
step_one r src ended out More (Last f) x y = absurd (last_not_open y.right x.0)
step_one r src ended out More More x y = (refl, x.1 ∙ sym y.1)
