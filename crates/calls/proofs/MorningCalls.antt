-- Request 09's demands in the calls' own terms: a cart's journey by a morning sheet; the sheet that
-- a label call left, by which both hops answer the same; the sheet with every crossing closed; and
-- a sheet that stays taken while markers are cleared, and entered where it shows closed or too low
-- to stop the cart.
use Rattle.std.specs.Prelude.{◌≡◌, refl, List, [], ◌∷◌, ◌↔◌, ◌⊎◌, ℕ, ◌+◌, ◌*◌, ◌≤◌, length}
use Rattle.std.proofs.Common.{sym, subst, subst₂, ◌∙◌, inl, inr, arith}
use Rattle.std.proofs.Math.Decide.{ℕ_discrete}
use Rattle.field.specs.declared.Marker.{Marker}
use Rattle.field.specs.Map.{On, dist}
use Rattle.field.specs.Refusals.{end_closed}
use Rattle.field.specs.Labels.{LabelSheet}
use Rattle.field.specs.Hops.{Permitted, There, Taken, none, hop}
use Rattle.field.specs.Morning.{ShownOpen}
use Rattle.field.proofs.Geometry.WayHome
use Rattle.field.proofs.Geometry.Mornings
use Rattle.field.proofs.Workings.SameLaws.{Alike}
use Rattle.field.proofs.Workings.GridLaws.{dist_none, dist_zero}
use Rattle.markers.specs.Promise.{marker}
use Rattle.markers.specs.Laws.Rocks.{RockOrNew}
use Rattle.markers.proofs.Laws.Rocks.{rock_enter, rock_clear_from, stands_rock}
use Rattle.calls.specs.Rules
use Rattle.calls.specs.Rules.{gives_one, LentMap, with_clearance, RocksOf, ClosedBy}
use Rattle.calls.specs.RuleLaws.{Reworded, gives_reworded, gives_without, same}
use Rattle.calls.specs.Answers.{no_hop}
use Rattle.calls.specs.Calls.{EnterCall, ClearCall, LabelCall, HopCall}
use Rattle.calls.specs.SameLaws.{hop_rows_same, hops_named_same}
use Rattle.calls.specs.OutcomeLaws.{refused_one, hops_named_one}
use Rattle.calls.specs.Sequences.{GoesOn, Names, SaysThere}
use Rattle.calls.proofs.ListCalls.{enter_passed, clear_formed}
use Rattle.calls.proofs.HopCalls.{named_hops, named_there, named_some}
use Rattle.calls.specs.HopByCall.{TakenOn, ShownOn, taken_rule, hop_by_table, HopByCall}
use Rattle.calls.specs.HopByCalls.{AskedBy, AssuredBy}
use Rattle.calls.proofs.HopByCalls.{asked_fits, asked_places, hop_by_passes}
use Rattle.calls.specs.declared.Counted.{Counted}
use Rattle.calls.specs.declared.Labelling.{Labelling}
use Rattle.calls.specs.declared.Homeward.{Homeward}
use Rattle.calls.specs.MorningCalls.{JourneyBy, start, move}

-- A journey by a sheet is a sequence of permitted hops.
journey_taken : {m : LentMap} {sheet : List ℕ} {hx hy x y n a b : ℕ} → JourneyBy m sheet hx hy x y n a b
    → Taken m.width m.height (ShownOn m sheet) hx hy x y n a b
journey_taken (start e p q) = none e p q
journey_taken (move {c} {d} j k z n e) = hop (journey_taken j) ((named_hops (k.done z) c d).0 n) e

-- The way home by a sheet that is taken and by which home is assured.
module _ {m : LentMap} {sheet : List ℕ} {hx hy x y : ℕ} (known : AssuredBy m hx hy x y sheet) where
  -- At each stage what the cart knew still holds.
  pub journey_by_known : {n a b : ℕ} → JourneyBy m sheet hx hy x y n a b → AssuredBy m hx hy a b sheet
  journey_by_known j =
      record {
        sides = known.sides;
        fits = known.fits;
        formed = known.formed;
        taken = known.taken;
        assured = WayHome.taken_assured known.assured (journey_taken j);
      }

  -- The sheet shows the crossing open, "and no cart stands on a rock that stops it".
  pub journey_by_open : {n a b : ℕ} → JourneyBy m sheet hx hy x y n a b → ShownOpen m.width m.height sheet a b
  journey_by_open j = Mornings.hops_open (RocksOf m) m.width m.height sheet known.taken known.sides hx hy known.assured (journey_taken j)

  pub journey_by_no_rock : {n a b : ℕ} → JourneyBy m sheet hx hy x y n a b → ¬ RocksOf m a b
  journey_by_no_rock j = Mornings.hops_no_rock (RocksOf m) m.width m.height sheet known.taken known.sides hx hy known.assured (journey_taken j)

  -- Hops taken and hops left make the distance: it is home after exactly the distance, and never
  -- before.
  pub journey_by_count : {n a b : ℕ} → JourneyBy m sheet hx hy x y n a b → n + dist a b hx hy ≡ dist x y hx hy
  journey_by_count j = WayHome.taken_count (journey_taken j)

  pub journey_by_home : {n a b : ℕ} → JourneyBy m sheet hx hy x y n a b → There hx hy a b ↔ (n ≡ dist x y hx hy)
  journey_by_home {n} {a} {b} j =
      (λ t. omega (arith, journey_by_count j, dist_none t.0 t.1), λ e. dist_zero a b hx hy (omega (arith, journey_by_count j)))

  -- The next call: it is not refused; it says "there" exactly at home; it names exactly the
  -- permitted hops; and until it says "there" it names one at least, so that the cart can always go
  -- on.
  module _ {n a b : ℕ} {s : Homeward} (way : JourneyBy m sheet hx hy x y n a b) (next : HopByCall m hx hy a b sheet s) where
    pub journey_by_not_refused : s.refusal ≡ 0
    journey_by_not_refused = hop_by_passes next (journey_by_known way)

    pub journey_by_there : SaysThere s ↔ There hx hy a b
    journey_by_there = named_there (next.done journey_by_not_refused)

    pub journey_by_names : (c d : ℕ) → Names s c d ↔ Permitted m.width m.height (ShownOn m sheet) hx hy a b c d
    journey_by_names = named_hops (next.done journey_by_not_refused)

    pub journey_by_goes_on : ¬ SaysThere s → (c : ℕ) × (d : ℕ) × Names s c d
    journey_by_goes_on = named_some (next.done journey_by_not_refused)

    pub journey_by_moves : (c d : ℕ) → Names s c d → JourneyBy m sheet hx hy x y (n + 1) c d
    journey_by_moves c d k = move {k = n + 1} way next journey_by_not_refused k (omega arith)

-- "The labelling is one such sheet": a sheet that a label call left is taken, and a hop by it
-- answers as the hop that labels afresh, refusals included.
module _ {m : LentMap} {labels sheet : List ℕ} {q : Labelling} (call : LabelCall m labels sheet q) (given : q.refusal ≡ 0) where
  labelled : LabelSheet (RocksOf m) m.width m.height sheet
  labelled = call.labels_after.labelled (λ t. omega arith)

  pub label_taken : TakenOn m sheet
  label_taken = Mornings.labelling_taken (RocksOf m) m.width m.height sheet labelled

  alike : Alike (ShownOn m sheet) (ClosedBy m)
  alike = Mornings.labelling_shows (RocksOf m) m.width m.height sheet labelled

  module _ {hx hy x y : ℕ} {other other' : List ℕ} {r s : Homeward} where
    pub label_hops_same : HopByCall m hx hy x y sheet r → HopCall m hx hy x y other other' s → length other ≡ m.height * m.width → r ≡ s
    label_hops_same c d fits = go (ℕ_discrete r.refusal 0)
      where
        sheets : (¬ (length sheet ≡ m.height * m.width)) ⊎ ⊥ → (¬ (length other ≡ m.height * m.width)) ⊎ ⊥
        sheets (inl n) = absurd (n labelled.size)
        sheets (inr n) = absurd n

        back : (¬ (length other ≡ m.height * m.width)) ⊎ ⊥ → (¬ (length sheet ≡ m.height * m.width)) ⊎ ⊥
        back (inl n) = absurd (n fits)
        back (inr n) = absurd n

        -- Row 20 does not apply, and the other rows are told in other words.
        reworded : Reworded (Rules.asking_table m (sheet ∷ []) (Rules.places_rule m hx hy x y ∷ Rules.hop_rows m.width m.height (ShownOn m sheet) hx hy x y)) (Rules.hop_table m hx hy x y other)
        reworded = (refl, same, λ _. (refl, (sheets, back), λ _. (refl, same, λ _. (refl, same, λ _. hop_rows_same m.width m.height alike))))

        e : r.refusal ≡ s.refusal
        e =
            gives_one (Rules.hop_table m hx hy x y other) _ _
            (gives_reworded (Rules.asking_table m (sheet ∷ []) (Rules.places_rule m hx hy x y ∷ Rules.hop_rows m.width m.height (ShownOn m sheet) hx hy x y)) (Rules.hop_table m hx hy x y other) _ reworded
            (gives_without (Rules.asking_table m (sheet ∷ []) (Rules.places_rule m hx hy x y ∷ [])) (taken_rule m sheet) (Rules.hop_rows m.width m.height (ShownOn m sheet) hx hy x y) _ (λ n. n label_taken) c.given))
            d.given

        go : Dec (r.refusal ≡ 0) → r ≡ s
        go (yes z) = hops_named_one (hops_named_same m.width m.height alike (c.done z)) (d.done (sym e ∙ z))
        go (no z) = refused_one no_hop e (c.refused z) (d.refused (λ k. z (e ∙ k)))

-- "one with every crossing closed is another": by such a sheet a hop is refused by 8, and not by
-- 20.
pub all_closed_eight : {m : LentMap} {hx hy x y : ℕ} {sheet : List ℕ} {r : Homeward} → AskedBy m hx hy x y sheet
    → ((a b : ℕ) → On m.width m.height a b → ShownOn m sheet a b) → HopByCall m hx hy x y sheet r → r.refusal ≡ end_closed
all_closed_eight {m} {hx} {hy} {x} {y} {sheet} k all c =
    gives_one (hop_by_table m hx hy x y sheet) _ _ c.given
    (inr (λ n. n k.sides, inr (asked_fits k, inr (λ n. n k.formed, inr (asked_places k, inr (λ n. n taken, inl (inl (all hx hy k.home), refl)))))))
  where
    taken : TakenOn m sheet
    taken = Mornings.all_closed_taken (RocksOf m) m.width m.height sheet k.fits all

-- A sheet taken for a cart of some clearance stays taken for it when any marker is cleared, and
-- when one is entered on a crossing that it shows closed, or one that does not stop this cart; a
-- refused call changes nothing. Entering and clearing are lent no clearance: the cart's stands
-- beside.
module _ {m next : LentMap} {clearance : ℕ} {sheet : List ℕ} {list' : List Marker} {r : Counted} (after : GoesOn m list' r next)
    (taken : TakenOn (with_clearance m clearance) sheet) where
  abbrev TakenThen : LentMap → Type 0
  TakenThen n = TakenOn (with_clearance n clearance) sheet

  pub clear_taken : {id : ℕ} → ClearCall m id list' r → TakenOn (with_clearance next clearance) sheet
  clear_taken {id} c = go (ℕ_discrete r.refusal 0)
    where
      go : Dec (r.refusal ≡ 0) → TakenThen next
      go (yes z) =
          let u = c.done z in
          let f = clear_formed c z in
          subst TakenThen (sym (after.new z))
          (Mornings.taken_fewer (λ x y k. let o = rock_clear_from clearance r.count x y f.lent u.list u.counted f.rising k in
          stands_rock clearance m.list m.count x y f.lent
          (record { place = o.place; below = o.below; x_is = o.x_is; y_is = o.y_is; such = o.stops })) taken)
      go (no z) = subst TakenThen (sym (after.old z)) taken

  pub enter_taken : {id x y height : ℕ} → EnterCall m id x y height list' r → ShownOn m sheet x y ⊎ (height ≤ clearance)
      → TakenOn (with_clearance next clearance) sheet
  enter_taken {id} {x} {y} {height} c harmless = go (ℕ_discrete r.refusal 0)
    where
      -- A rock after entering is one before, or the new one: and that is shown closed, or is none.
      turned : (a b : ℕ) → ShownOn m sheet x y ⊎ (height ≤ clearance) → RockOrNew clearance m.list m.count (marker id x y height) a b
          → RocksOf (with_clearance m clearance) a b ⊎ ShownOn m sheet a b
      turned a b s (inl k) = inl k
      turned a b (inl s) (inr e) = inr (subst₂ (ShownOn m sheet) e.0 e.1 s)
      turned a b (inr low) (inr e) = absurd (omega (arith, e.2))

      go : Dec (r.refusal ≡ 0) → TakenThen next
      go (yes z) =
          let u = c.done z in
          subst TakenThen (sym (after.new z))
          (Mornings.taken_moved (λ a b _ k. turned a b harmless ((rock_enter clearance a b (enter_passed c z).room u.list).0 (rw u.counted at k))) taken)
      go (no z) = subst TakenThen (sym (after.old z)) taken
