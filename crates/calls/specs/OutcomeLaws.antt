-- What makes an outcome one. Answers are equal by their fields; what an asking leaves in a lent
-- sheet is one, since the number that it gave says whether the sheet is kept, emptied or filled,
-- and the list says with what.
use Rattle.std.specs.Prelude.{◌≡◌, refl, Bool, true, false, List, ◌++◌, ◌↔◌, ℕ, ◌≤◌, take, drop}
use Rattle.std.proofs.Common.{sym, ap, subst, subst₂, ◌∙◌, inl, inr, arith, take-append-drop, ext_get_or}
use Rattle.std.proofs.Math.Decide.{dec_le, ℕ_discrete}
use Rattle.field.specs.declared.Marker.{Marker}
use Rattle.field.specs.Refusals.{no_slot, end_closed, no_drive, no_lines}
use Rattle.field.specs.Labels.{Rock}
use Rattle.field.specs.Distances.{Way}
use Rattle.field.specs.CrossingLines.{DrivenBy}
use Rattle.field.proofs.Geometry.LinesLaws.{lines_one, lines_yes, driven_by_one}
use Rattle.field.specs.Workings.Tests.{test_dec}
use Rattle.field.specs.Workings.Stamping.{rock_of}
use Rattle.field.proofs.Workings.Stamping.{rock_of_lem, of_rock}
use Rattle.field.proofs.Workings.Labelling.{label_sheet_one}
use Rattle.field.proofs.Workings.DistanceLaws.{distance_sheet_one}
use Rattle.field.proofs.Workings.RegionLaws.{region_sheet_one}
use Rattle.field.proofs.Workings.HopLaws.{answers_one}
use Rattle.field.proofs.Workings.ChooserLaws.{driven_one}
use Rattle.mapfile.proofs.PackedLaws.{Tellable}
use Rattle.calls.specs.Answers.{Early, LabelsAfter, DistancesAfter, homeward, HopsNamed, RegionAfter, RouteAfter}
use Rattle.calls.specs.LinesCall.{LinesTold, RegionSpared, LinesRegionAfter, JoinedDrive, JoinedAfter}
use Rattle.calls.specs.declared.CrossingLines.{CrossingLines}
use Rattle.calls.specs.declared.Counted.{Counted}
use Rattle.calls.specs.declared.Labelling.{Labelling}
use Rattle.calls.specs.declared.Four.{Four}
use Rattle.calls.specs.declared.Assurance.{Assurance}
use Rattle.calls.specs.declared.Homeward.{Homeward}
use Rattle.calls.specs.declared.Drove.{Drove}
use Rattle.calls.specs.declared.ReadMap.{ReadMap}
use Rattle.calls.specs.declared.WroteMap.{WroteMap}

-- n lies from 1 to m.
upto_dec : (n m : ℕ) → Dec ((1 ≤ n) × (n ≤ m))
upto_dec n m = go (dec_le 1 n) (dec_le n m)
  where
    go : Dec (1 ≤ n) → Dec (n ≤ m) → Dec ((1 ≤ n) × (n ≤ m))
    go (yes p) (yes q) = yes (p, q)
    go (no p) q = no (λ t. p t.0)
    go (yes p) (no q) = no (λ t. q t.1)

pub early_dec : (n : ℕ) → Dec (Early n)
early_dec n = upto_dec n no_slot

pub labels_after_one : {R : ℕ → ℕ → Type 0} {w h n m : ℕ} {labels a b : List ℕ} → n ≡ m → LabelsAfter R w h n labels a
    → LabelsAfter R w h m labels b → a ≡ b
labels_after_one {R} {w} {h} {n} {m} {labels} {a} {b} e p q = go (early_dec n)
  where
    go : Dec (Early n) → a ≡ b
    go (yes t) = p.kept t ∙ sym (q.kept (omega arith))
    go (no t) = label_sheet_one R w h a b (p.labelled t) (q.labelled (λ k. t (omega arith)))

pub distances_after_one : {w h : ℕ} {C : ℕ → ℕ → Type 0} {way : Way} {n m : ℕ} {sheet a b : List ℕ} → n ≡ m → DistancesAfter w h C way n sheet a
    → DistancesAfter w h C way m sheet b → a ≡ b
distances_after_one {n = n} {m = m} {a = a} {b = b} e p q = go (ℕ_discrete n 0)
  where
    go : Dec (n ≡ 0) → a ≡ b
    go (yes z) = distance_sheet_one (p.filled z) (q.filled (sym e ∙ z))
    go (no z) = p.kept z ∙ sym (q.kept (λ k. z (e ∙ k)))

pub region_after_one : {w h : ℕ} {C : ℕ → ℕ → Type 0} {sx sy dx dy n m : ℕ} {region a b : List ℕ} → n ≡ m
    → RegionAfter w h C sx sy dx dy n region a → RegionAfter w h C sx sy dx dy m region b → a ≡ b
region_after_one {w} {h} {C} {sx} {sy} {dx} {dy} {n} {m} {region} {a} {b} e p q = go (upto_dec n end_closed) (ℕ_discrete n no_drive)
  where
    go : Dec ((1 ≤ n) × (n ≤ end_closed)) → Dec (n ≡ no_drive) → a ≡ b
    go (yes t) d = p.kept t ∙ sym (q.kept (omega arith))
    go (no t) (yes d) =
        let f : m ≡ no_drive = omega arith in
        ext_get_or 0 a b (p.size d ∙ sym (q.size f)) (λ i l. p.zeros d i ∙ sym (q.zeros f i))
    go (no t) (no d) = region_sheet_one w h C sx sy dx dy (p.made (λ k. t (omega arith))) (q.made (λ k. t (omega arith)))

pub lines_region_after_one : {w h : ℕ} {C : ℕ → ℕ → Type 0} {sx sy dx dy n m : ℕ} {region a b : List ℕ} → n ≡ m
    → LinesRegionAfter w h C sx sy dx dy n region a → LinesRegionAfter w h C sx sy dx dy m region b → a ≡ b
lines_region_after_one {w} {h} {C} {sx} {sy} {dx} {dy} {n} {m} {region} {a} {b} e p q = go (upto_dec n end_closed) (ℕ_discrete n no_lines)
  where
    go : Dec ((1 ≤ n) × (n ≤ end_closed)) → Dec (n ≡ no_lines) → a ≡ b
    go (yes t) d = p.kept (inl t) ∙ sym (q.kept (subst RegionSpared e (inl t)))
    go (no t) (yes d) = p.kept (inr d) ∙ sym (q.kept (subst RegionSpared e (inr d)))
    go (no t) (no d) = region_sheet_one w h C sx sy dx dy (p.made spared) (q.made (λ k. spared (subst RegionSpared (sym e) k)))
      where
        spared : ¬ RegionSpared n
        spared (inl k) = t k
        spared (inr k) = d k

-- A route is its filled part and the rest.
route_whole : (route : List ℕ) {i j : ℕ} {a b : List ℕ} → i ≡ j → take i a ≡ take j b → drop i a ≡ drop i route → drop j b ≡ drop j route → a ≡ b
route_whole route {i} {j} {a} {b} f front back back' =
    sym (take-append-drop i a) ∙ ap (λ (l : List ℕ). l ++ drop i a) front
    ∙ ap (λ (l : List ℕ). take j b ++ l) (back ∙ ap (λ (k : ℕ). drop k route) f ∙ sym back') ∙ take-append-drop j b

-- What is left of a route: so many crossings, one state after them, and one route.
pub route_after_one : {w h : ℕ} {C : ℕ → ℕ → Type 0} {sx sy dx dy n m i j state z z' : ℕ} {route a b : List ℕ} → n ≡ m
    → RouteAfter w h C sx sy dx dy n i route state a z → RouteAfter w h C sx sy dx dy m j route state b z'
    → (i ≡ j) × (a ≡ b) × (z ≡ z')
route_after_one {w} {h} {C} {sx} {sy} {dx} {dy} {n} {m} {i} {j} {state} {z} {z'} {route} {a} {b} e p q = go (ℕ_discrete n 0)
  where
    go : Dec (n ≡ 0) → (i ≡ j) × (a ≡ b) × (z ≡ z')
    go (yes k) =
        let k' : m ≡ 0 = sym e ∙ k in
        let f : i ≡ j = p.long k ∙ sym (q.long k') in
        let o = driven_one w h C sx sy dx dy (p.driven k) (q.driven k') in
        (f, route_whole route f o.0 (p.rest k) (q.rest k'), o.1)
    go (no k) =
        let k' : ¬ (m ≡ 0) = λ d. k (e ∙ d) in
        (p.none k ∙ sym (q.none k'), p.kept k ∙ sym (q.kept k'), p.still k ∙ sym (q.still k'))

-- The lines are one, and so is the drive by way of where they meet.
pub joined_drive_one : {w h : ℕ} {C : ℕ → ℕ → Type 0} {sx sy dx dy state z z' : ℕ} {l k : List ℕ} → JoinedDrive w h C sx sy dx dy state l z
    → JoinedDrive w h C sx sy dx dy state k z' → (l ≡ k) × (z ≡ z')
joined_drive_one {w} {h} {C} {sx} {sy} {dx} {dy} {state} {z} {z'} {l} {k} p q =
    let e = lines_one p.lines q.lines in
    driven_by_one p.by (subst₂ (λ (x y : ℕ). DrivenBy w h C sx sy dx dy x y state k z') (sym e.0) (sym e.1) q.by)

pub joined_after_one : {w h : ℕ} {C : ℕ → ℕ → Type 0} {sx sy dx dy n m i j state z z' : ℕ} {route a b : List ℕ} → n ≡ m
    → JoinedAfter w h C sx sy dx dy n i route state a z → JoinedAfter w h C sx sy dx dy m j route state b z'
    → (i ≡ j) × (a ≡ b) × (z ≡ z')
joined_after_one {n = n} {m = m} {i = i} {j = j} {z = z} {z' = z'} {route = route} {a = a} {b = b} e p q = go (ℕ_discrete n 0)
  where
    go : Dec (n ≡ 0) → (i ≡ j) × (a ≡ b) × (z ≡ z')
    go (yes k) =
        let k' : m ≡ 0 = sym e ∙ k in
        let f : i ≡ j = p.long k ∙ sym (q.long k') in
        let o = joined_drive_one (p.driven k) (q.driven k') in
        (f, route_whole route f o.0 (p.rest k) (q.rest k'), o.1)
    go (no k) =
        let k' : ¬ (m ≡ 0) = λ d. k (e ∙ d) in
        (p.none k ∙ sym (q.none k'), p.kept k ∙ sym (q.kept k'), p.still k ∙ sym (q.still k'))

-- What the test tells is one: yes and no exclude each other, and each fixes the numbers beside it.
pub lines_told_one : {w h : ℕ} {C : ℕ → ℕ → Type 0} {sx sy dx dy : ℕ} (r s : CrossingLines) → r.refusal ≡ s.refusal
    → LinesTold w h C sx sy dx dy r → LinesTold w h C sx sy dx dy s → r ≡ s
lines_told_one r s e p q = go r.yes s.yes refl refl
  where
    go : (a b : Bool) → r.yes ≡ a → s.yes ≡ b → r ≡ s
    go true true a b = let k = lines_one (p.lines a) (q.lines b) in
        λ i. record { refusal = e i; yes = (a ∙ sym b) i; column = k.0 i; row = k.1 i }
    go true false a b = absurd (q.none b (lines_yes (p.lines a)))
    go false true a b = absurd (p.none a (lines_yes (q.lines b)))
    go false false a b = p.zeros a ∙ sym (q.zeros b)

-- A hop's answer is one.
pub hops_named_one : {w h : ℕ} {C : ℕ → ℕ → Type 0} {hx hy x y : ℕ} {r s : Homeward} → HopsNamed w h C hx hy x y r → HopsNamed w h C hx hy x y s → r ≡ s
hops_named_one p q = p.is ∙ ap homeward (answers_one p.answers q.answers) ∙ sym q.is

-- Two refusals with one number.
pub refused_one : {A : Type 0} (refusal : ℕ → A) {n m : ℕ} {r s : A} → n ≡ m → r ≡ refusal n → s ≡ refusal m → r ≡ s
refused_one refusal e p q = p ∙ ap refusal e ∙ sym q

-- Answers by their fields.
pub counted_same : {r s : Counted} → r.refusal ≡ s.refusal → r.count ≡ s.count → r ≡ s
counted_same p q = λ i. record { refusal = p i; count = q i }

pub drove_same : {r s : Drove} → r.refusal ≡ s.refusal → r.length ≡ s.length → r ≡ s
drove_same p q = λ i. record { refusal = p i; length = q i }

pub wrote_same : {r s : WroteMap} → r.refusal ≡ s.refusal → r.bytes ≡ s.bytes → r ≡ s
wrote_same p q = λ i. record { refusal = p i; bytes = q i }

pub four_same : {r s : Four} → r.refusal ≡ s.refusal → r.four ≡ s.four → r ≡ s
four_same p q = λ i. record { refusal = p i; four = q i }

pub assurance_same : {r s : Assurance} → r.refusal ≡ s.refusal → r.assured ≡ s.assured → r ≡ s
assurance_same p q = λ i. record { refusal = p i; assured = q i }

pub labelling_same : {r s : Labelling} → r.refusal ≡ s.refusal → r.rocks ≡ s.rocks → r.shut ≡ s.shut → r.groups ≡ s.groups → r ≡ s
labelling_same p q u v = λ i. record { refusal = p i; rocks = q i; shut = u i; groups = v i }

pub read_same : {r s : ReadMap} → r.refusal ≡ s.refusal → r.width ≡ s.width → r.height ≡ s.height → r.count ≡ s.count → r ≡ s
read_same p q u v = λ i. record { refusal = p i; width = q i; height = u i; count = v i }

-- Two answers that are yes exactly where P holds.
pub both_true : (a b : Bool) {P : Type 0} → ((a ≡ true) ↔ P) → ((b ≡ true) ↔ P) → a ≡ b
both_true true true p q = λ i. true
both_true true false p q = sym (q.1 (p.0 (λ i. true)))
both_true false true p q = p.1 (q.0 (λ i. true))
both_true false false p q = λ i. false

-- Whether a crossing is a rock can be told.
pub rocks_told : (clearance : ℕ) (list : List Marker) (w h : ℕ) → Tellable w h (Rock clearance list)
rocks_told clearance list w h x y o = test_dec (rock_of clearance list x y) (of_rock clearance list x y, rock_of_lem clearance list x y)
