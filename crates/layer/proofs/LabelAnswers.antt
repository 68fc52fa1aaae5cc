-- Labelling, sweeps, distances, assurance, hops, checks and crossing lines: what is answered over a
-- stamped sheet is what the call promises of the list; and so is a refusal of the first part.
use Rattle.std.proofs.Common.{◌≡◌, refl, Bool, true, false, List, [], ◌∷◌, ◌↔◌, inl, ⊎_elim, ℕ, length, arith}
use Rattle.std.specs.Prelude.{Result, Ok, Err, IfOk, Option, None, Some}
use Rattle.std.proofs.lemmas.Result.{IfOk-from_err, IfOk-weaker, err_from_is_err_and}
use Rattle.field.specs.declared.Size.{Size}
use Rattle.field.specs.declared.Place.{Place}
use Rattle.field.specs.declared.Hops.{Hops}
use Rattle.field.specs.declared.Hops.TheVariants.{There, One, Two}
use Rattle.field.specs.declared.Labelled.{Labelled}
use Rattle.field.specs.declared.reasons.Fault.{Fault}
use Rattle.field.specs.declared.refusals.Refusal.{Refusal}
use Rattle.field.specs.Refusals.{told}
use Rattle.field.specs.Distances.{Distances, Assured}
use Rattle.field.specs.Sweeps.{Sweeps}
use Rattle.field.specs.Hops.{Answers, there, one, two}
use Rattle.field.specs.Checks.{Finds}
use Rattle.field.proofs.Workings.SameLaws.{alike_back, distances_same, assured_same, answers_same, sweeps_same, distance_sheet_same}
use Rattle.labels.specs.Promise.{Labels}
use Rattle.sweeping.specs.Promise.{Sweeping}
use Rattle.calls.specs.Rules
use Rattle.calls.specs.Rules.{LentMap, Sized, OnIt, RocksOf, ClosedBy, Rule, assured_rows, hop_rows}
use Rattle.calls.specs.RuleLaws.{Reworded}
use Rattle.calls.specs.AfterLaws.{distances_kept, distances_filled}
use Rattle.calls.specs.SameLaws.{numbers_same, finds_same, lines_told_same, assured_rows_same, hop_rows_same}
use Rattle.calls.specs.Answers.{LabelNumbers}
use Rattle.calls.specs.Calls.{LabelCall, DistancesCall, MeasureCall, AssuredCall, HopCall}
use Rattle.calls.specs.CheckCall.{CheckCall, check_rows, check_table, finding}
use Rattle.calls.specs.SweepsCall.{SweepsCall, sweeps_table}
use Rattle.calls.specs.LinesCall.{LinesCall, LinesTold, lines_rows, lines_table}
use Rattle.calls.specs.Told.{labelling, swept, four, assurance, homeward_of, hops_named, checked, crossing_lines}
use Rattle.askings.specs.Promise.{MayAsk, MayAskTwo, MayMeasure, ClosedOn, DistancesRest, MeasureRest, AssuredRest, HopRest, CheckRest, LinesRest}
use Rattle.judging.specs.Judging.{FourFit}
use Rattle.layer.specs.Prepared.{Prepared}
use Rattle.layer.proofs.Tables.{not_no}
use Rattle.layer.proofs.Joining.{Handed, Answered, none_tell, four_tell, some_number, refused, two_refused, two_joined, first_good, second_good, others_good, on_lent, on_map, sheet_stamped, stones_alike, closed_alike, joined}

-- A call that asks for no place names (0, 0), which is on every map; one that asks for one place
-- names it twice; one that asks for two has their row as it is.
no_place : (m : LentMap) → Sized m → Reworded (Rules.places_rule m 0 0 0 0 ∷ []) []
no_place m sides = (⊎_elim (λ f. f on) (λ f. f on), tt)
  where
    on : OnIt m 0 0
    on = record { in_x = sides.some_w; in_y = sides.some_h }

one_place : (m : LentMap) (x y : ℕ) → Sized m → Reworded (Rules.places_rule m x y x y ∷ []) (Rules.place_rule m x y ∷ [])
one_place m x y sides = (refl, (⊎_elim (λ f. f) (λ f. f), inl), λ _. tt)

-- Each call's promise by what is answered: with a value, and with a refusal.
module _ {m : LentMap} {labels t : List ℕ} where
  label_call : (r : Result Labelled Refusal) → Answered m (Rules.label_table m labels) labels t (told r)
      → IfOk r (λ n. LabelNumbers (RocksOf m) m.width m.height (labelling (Ok n))) → LabelCall m labels t (labelling r)
  label_call (Ok n) q k = record { given = q.given; labels_after = q.labels_after; refused = λ f. absurd (f refl); done = λ _. k }
  label_call (Err e) q k = record { given = q.given; labels_after = q.labels_after; refused = λ _. refl; done = λ z. absurd (some_number e z) }

  sweeps_call : (r : Result ℕ Refusal) → Answered m (sweeps_table m labels) labels t (told r)
      → IfOk r (λ n. Sweeps (RocksOf m) m.width m.height n) → SweepsCall m labels t (swept r)
  sweeps_call (Ok n) q k = record { given = q.given; labels_after = q.labels_after; refused = λ f. absurd (f refl); done = λ _. k }
  sweeps_call (Err e) q k = record { given = q.given; labels_after = q.labels_after; refused = λ _. refl; done = λ z. absurd (some_number e z) }

  module _ {x y : ℕ} where
    distances_call : (r : Result (List ℕ) Refusal) → Answered m (Rules.distances_table m x y labels) labels t (told r)
        → IfOk r (λ l. Distances (ClosedBy m) x y l) → DistancesCall m x y labels t (four r)
    distances_call (Ok l) q k = record { given = q.given; labels_after = q.labels_after; refused = λ f. absurd (f refl); done = λ _. k }
    distances_call (Err e) q k = record { given = q.given; labels_after = q.labels_after; refused = λ _. refl; done = λ z. absurd (some_number e z) }

  module _ {hx hy x y : ℕ} where
    assured_call : (r : Result Bool Refusal) → Answered m (Rules.assured_table m hx hy x y labels) labels t (told r)
        → IfOk r (λ b. (b ≡ true) ↔ Assured m.width m.height (ClosedBy m) hx hy x y) → AssuredCall m hx hy x y labels t (assurance r)
    assured_call (Ok b) q k = record { given = q.given; labels_after = q.labels_after; refused = λ f. absurd (f refl); done = λ _. k }
    assured_call (Err e) q k = record { given = q.given; labels_after = q.labels_after; refused = λ _. refl; done = λ z. absurd (some_number e z) }

    hop_call : (r : Result Hops Refusal) → Answered m (Rules.hop_table m hx hy x y labels) labels t (told r)
        → IfOk r (λ a. Answers m.width m.height (ClosedBy m) hx hy x y (hops_named a)) → HopCall m hx hy x y labels t (homeward_of r)
    hop_call (Ok There) q k = record { given = q.given; labels_after = q.labels_after; refused = λ f. absurd (f refl); done = λ _. record { answer = there; answers = k; is = refl } }
    hop_call (Ok (One p)) q k = record { given = q.given; labels_after = q.labels_after; refused = λ f. absurd (f refl); done = λ _. record { answer = one p.x p.y; answers = k; is = refl } }
    hop_call (Ok (Two p v)) q k = record { given = q.given; labels_after = q.labels_after; refused = λ f. absurd (f refl); done = λ _. record { answer = two p.x p.y v.x v.y; answers = k; is = refl } }
    hop_call (Err e) q k = record { given = q.given; labels_after = q.labels_after; refused = λ _. refl; done = λ z. absurd (some_number e z) }

    check_call : {drawn : List ℕ} (r : Result (Result Unit Fault) Refusal) → Answered m (check_table m hx hy x y labels) labels t (told r)
        → IfOk r (λ f. Finds m.width m.height (ClosedBy m) hx hy x y drawn (finding (checked (Ok f)))) → CheckCall m hx hy x y labels drawn t (checked r)
    check_call (Ok (Ok _)) q k = record { given = q.given; labels_after = q.labels_after; refused = λ f. absurd (f refl); done = λ _. k }
    check_call (Ok (Err f)) q k = record { given = q.given; labels_after = q.labels_after; refused = λ f. absurd (f refl); done = λ _. k }
    check_call (Err e) q k = record { given = q.given; labels_after = q.labels_after; refused = λ _. refl; done = λ z. absurd (some_number e z) }

    lines_call : (r : Result (Option Place) Refusal) → Answered m (lines_table m hx hy x y labels) labels t (told r)
        → IfOk r (λ l. LinesTold m.width m.height (ClosedBy m) hx hy x y (crossing_lines (Ok l))) → LinesCall m hx hy x y labels t (crossing_lines r)
    lines_call (Ok None) q k = record { given = q.given; labels_after = q.labels_after; refused = λ f. absurd (f refl); done = λ _. k }
    lines_call (Ok (Some p)) q k = record { given = q.given; labels_after = q.labels_after; refused = λ f. absurd (f refl); done = λ _. k }
    lines_call (Err e) q k = record { given = q.given; labels_after = q.labels_after; refused = λ _. refl; done = λ z. absurd (some_number e z) }

-- A refusal of the first part, handed on.
module _ {m : LentMap} {labels s : List ℕ} {e : Refusal} where
  module _ (p : Prepared m false 0 0 0 0 true labels s (Err e)) where
    pub label_refused : (r : Result Labelled Refusal) → Handed e r → LabelCall m labels s (labelling r)
    label_refused r f = label_call r (refused [] [] [] none_tell (no_place m) r p f) (IfOk-from_err r _ f.0)

    pub sweeps_refused : (r : Result ℕ Refusal) → Handed e r → SweepsCall m labels s (swept r)
    sweeps_refused r f = sweeps_call r (refused [] [] [] none_tell (no_place m) r p f) (IfOk-from_err r _ f.0)

  module _ {x y : ℕ} (p : Prepared m false x y x y true labels s (Err e)) where
    pub distances_refused : (r : Result (List ℕ) Refusal) → Handed e r → DistancesCall m x y labels s (four r)
    distances_refused r f = distances_call r (refused [] (Rules.place_rule m x y ∷ []) [] none_tell (one_place m x y) r p f) (IfOk-from_err r _ f.0)

  module _ {hx hy x y : ℕ} (p : Prepared m false hx hy x y true labels s (Err e)) where
    pub assured_refused : (r : Result Bool Refusal) → Handed e r → AssuredCall m hx hy x y labels s (assurance r)
    assured_refused r f = assured_call r (two_refused [] none_tell (assured_rows (ClosedBy m) hx hy x y) r p f) (IfOk-from_err r _ f.0)

    pub hop_refused : (r : Result Hops Refusal) → Handed e r → HopCall m hx hy x y labels s (homeward_of r)
    hop_refused r f = hop_call r (two_refused [] none_tell (hop_rows m.width m.height (ClosedBy m) hx hy x y) r p f) (IfOk-from_err r _ f.0)

    pub check_refused : {drawn : List ℕ} (r : Result (Result Unit Fault) Refusal) → Handed e r → CheckCall m hx hy x y labels drawn s (checked r)
    check_refused r f = check_call r (two_refused [] none_tell (check_rows (ClosedBy m) hx hy x y) r p f) (IfOk-from_err r _ f.0)

    pub lines_refused : (r : Result (Option Place) Refusal) → Handed e r → LinesCall m hx hy x y labels s (crossing_lines r)
    lines_refused r f = lines_call r (two_refused [] none_tell (lines_rows (ClosedBy m) hx hy x y) r p f) (IfOk-from_err r _ f.0)

-- What the second part answers.
module _ {m : LentMap} {labels s : List ℕ} {map : Size} where
  module _ (p : Prepared m false 0 0 0 0 true labels s (Ok map)) where
    pub label_joined : {t : List ℕ} {n : Labelled} → Labels map.w map.h s t n → LabelCall m labels t (labelling (Ok n))
    label_joined {t} {n} e =
        let k = on_lent p (λ w h. Labels w h s t n) e in
        label_call (Ok n) (joined p [] [] tt none_tell (no_place m) [] [] tt tt refl k.sheet)
        (numbers_same _ _ (stones_alike p) (record { rocks = k.rocks; shut = k.shut; groups = k.groups }))

    pub sweeps_joined : {t : List ℕ} {n : ℕ} → Sweeping map.w map.h s t n → SweepsCall m labels t (swept (Ok n))
    sweeps_joined {t} {n} e =
        let k = on_lent p (λ w h. Sweeping w h s t n) e in
        sweeps_call (Ok n) (joined p [] [] tt none_tell (no_place m) [] [] tt tt refl k.sheet) (sweeps_same _ _ (stones_alike p) k.sweeps)

  module _ {x y : ℕ} (p : Prepared m false x y x y true labels s (Ok map)) where
    pub distances_may : MayAsk map.w map.h x y s
    distances_may = on_map p (λ w h. MayAsk w h x y s) (record { stamped = sheet_stamped p; on = first_good p })

    pub distances_joined : {t l : List ℕ} → DistancesRest map.w map.h x y s t l → DistancesCall m x y labels t (four (Ok l))
    distances_joined {t} {l} e =
        let k = on_lent p (λ w h. DistancesRest w h x y s t l) e in
        distances_call (Ok l) (joined p [] (Rules.place_rule m x y ∷ []) (omega arith) none_tell (one_place m x y) [] [] tt tt refl k.sheet)
        (distances_same m.width m.height (closed_alike p) k.distances)

  module _ {hx hy x y : ℕ} (p : Prepared m false hx hy x y true labels s (Ok map)) where
    pub ends_may : MayAskTwo map.w map.h hx hy x y s
    ends_may = on_map p (λ w h. MayAskTwo w h hx hy x y s) (record { stamped = sheet_stamped p; from = first_good p; to = second_good p })

    pub assured_joined : {t : List ℕ} (r : Result Bool Refusal) → AssuredRest map.w map.h hx hy x y s t r → AssuredCall m hx hy x y labels t (assurance r)
    assured_joined {t} r e =
        let k = on_lent p (λ w h. AssuredRest w h hx hy x y s t r) e in
        let alike = closed_alike p in
        assured_call r (two_joined [] none_tell p (assured_rows (ClosedOn m.width m.height s) hx hy x y) (assured_rows (ClosedBy m) hx hy x y) (omega arith)
        (assured_rows_same m.width m.height alike) k.asked.given k.sheet)
        (IfOk-weaker r _ _ (λ b u. (λ yes. assured_same _ _ alike (u.0 yes), λ a. u.1 (assured_same _ _ (alike_back alike) a))) k.asked.answer)

    pub hop_joined : {t : List ℕ} (r : Result Hops Refusal) → HopRest map.w map.h hx hy x y s t r → HopCall m hx hy x y labels t (homeward_of r)
    hop_joined {t} r e =
        let k = on_lent p (λ w h. HopRest w h hx hy x y s t r) e in
        hop_call r (two_joined [] none_tell p (hop_rows m.width m.height (ClosedOn m.width m.height s) hx hy x y)
        (hop_rows m.width m.height (ClosedBy m) hx hy x y) (omega arith) (hop_rows_same m.width m.height (closed_alike p)) k.asked.given k.sheet)
        (IfOk-weaker r _ _ (λ a. answers_same _ _ (closed_alike p)) k.asked.answer)

    pub check_joined : {drawn t : List ℕ} (r : Result (Result Unit Fault) Refusal) → CheckRest map.w map.h hx hy x y s drawn t r
        → CheckCall m hx hy x y labels drawn t (checked r)
    check_joined {drawn} {t} r e =
        let k = on_lent p (λ w h. CheckRest w h hx hy x y s drawn t r) e in
        check_call r (two_joined [] none_tell p (check_rows (ClosedOn m.width m.height s) hx hy x y) (check_rows (ClosedBy m) hx hy x y) (omega arith)
        (assured_rows_same m.width m.height (closed_alike p)) k.asked.given k.sheet)
        (IfOk-weaker r _ _ (λ f. finds_same _ _ (closed_alike p)) k.asked.answer)

    pub lines_joined : {t : List ℕ} (r : Result (Option Place) Refusal) → LinesRest map.w map.h hx hy x y s t r → LinesCall m hx hy x y labels t (crossing_lines r)
    lines_joined {t} r e =
        let k = on_lent p (λ w h. LinesRest w h hx hy x y s t r) e in
        lines_call r (two_joined [] none_tell p (lines_rows (ClosedOn m.width m.height s) hx hy x y) (lines_rows (ClosedBy m) hx hy x y) (omega arith)
        (assured_rows_same m.width m.height (closed_alike p)) k.asked.given k.sheet)
        (IfOk-weaker r _ _ (λ l. lines_told_same _ _ (closed_alike p)) k.asked.answer)

-- The distances of the map, over four other lent sheets.
module _ {m : LentMap} {others : Bool} {labels s e d f u : List ℕ} where
  pub measure_refused : {z : Refusal} → Prepared m false 0 0 0 0 others labels s (Err z)
      → ((others ≡ true) ↔ FourFit m.width m.height (length e) (length d) (length f) (length u))
      → (r : Result Unit Refusal) → Handed z r → MeasureCall m labels e d f u s e d f u (told r)
  measure_refused {z} p fit r k =
      let q = refused (e ∷ d ∷ f ∷ u ∷ []) [] [] (four_tell e d f u fit) (no_place m) r p k in
      let v = err_from_is_err_and r k.1 in
      let some : ¬ (told r ≡ 0) = rw (v.1, v.2) (some_number z) in
      record {
        given = q.given;
        labels_after = q.labels_after;
        east_after = distances_kept some;
        south_after = distances_kept some;
        west_after = distances_kept some;
        north_after = distances_kept some;
      }

  module _ {map : Size} (p : Prepared m false 0 0 0 0 others labels s (Ok map))
      (fit : (others ≡ true) ↔ FourFit m.width m.height (length e) (length d) (length f) (length u)) where
    pub measure_may : MayMeasure map.w map.h s e d f u
    measure_may =
        let k = fit.0 (not_no others (others_good p)) in
        on_map p (λ w h. MayMeasure w h s e d f u)
        (record { stamped = sheet_stamped p; east = k.first; south = k.second; west = k.third; north = k.fourth })

    pub measure_joined : {t e' d' f' u' : List ℕ} → MeasureRest map.w map.h s t e' d' f' u' → MeasureCall m labels e d f u t e' d' f' u' 0
    measure_joined {t} {e'} {d'} {f'} {u'} g =
        let k = on_lent p (λ w h. MeasureRest w h s t e' d' f' u') g in
        let q = joined p (e ∷ d ∷ f ∷ u ∷ []) [] tt (four_tell e d f u fit) (no_place m) [] [] tt tt refl k.sheet in
        let alike = closed_alike p in
        record {
          given = q.given;
          labels_after = q.labels_after;
          east_after = distances_filled refl (distance_sheet_same _ _ alike k.east);
          south_after = distances_filled refl (distance_sheet_same _ _ alike k.south);
          west_after = distances_filled refl (distance_sheet_same _ _ alike k.west);
          north_after = distances_filled refl (distance_sheet_same _ _ alike k.north);
        }
