-- The theorems of a morning sheet (Req 09), over any sheet taken: it shows closed every crossing
-- that the rocks close, and what it shows closed is a stable set. So the way home holds over it as
-- it does over the labelling, and no cart stands on a rock that stops it.
use Rattle.std.specs.Prelude.{◌≡◌, List, ◌⊎◌, ℕ, ◌+◌, ◌*◌, ◌≤◌, length, get_or, replicate}
use Rattle.std.proofs.Common.{subst, inl, inr, arith}
use Rattle.std.proofs.lemmas.List.{length-replicate, get_or-replicate}
use Rattle.field.specs.Map.{Sides, On, at, Apart, dist}
use Rattle.field.specs.Labels.{Closed, rock, between, Stable, smallest, Label, is_open, is_rock, is_shut, LabelSheet}
use Rattle.field.specs.Distances.{Assured}
use Rattle.field.specs.Hops.{Permitted, There, Taken}
use Rattle.field.specs.Morning.{ShownOpen, ShownClosed, LabelBytes, SheetTaken}
use Rattle.field.specs.Workings.Sheet.{Draws, Crossing, crossing, number_lt}
use Rattle.field.proofs.Workings.Marks.{drawn_dec}
use Rattle.field.proofs.Workings.Labelling.{label_sheet_draws}
use Rattle.field.proofs.Workings.MorningLaws
use Rattle.field.proofs.Workings.MorningLaws.{shown_on, shown_marked, marked_shown, shown_draws, shown_stable, open_shown}
use Rattle.field.proofs.Workings.SameLaws.{Alike}
use Rattle.field.proofs.Geometry.WayHome

module _ (R : ℕ → ℕ → Type 0) (w h : ℕ) (s : List ℕ) where
  abbrev C : ℕ → ℕ → Type 0
  C = ShownClosed w h s

  module _ (taken : SheetTaken R w h s) where
    stable : Stable w h C
    stable = shown_stable w h s taken.bytes taken.none_between

    told : (x y : ℕ) → Dec (C x y)
    told = drawn_dec w h C s (shown_draws w h s taken.bytes)

    -- The sheet may shut more than the rocks of today do, never less.
    pub closed_shown : (x y : ℕ) → Closed R w h x y → C x y
    closed_shown = smallest R w h C taken.rocks stable

    -- The way home: "Over any sheet taken, with assurance read from that sheet and sheet and
    -- markers unchanged, demand 3's second half still holds". Home is (hx, hy).
    module _ (sides : Sides w h) (hx hy : ℕ) where
      -- From an assured place other than home there is a permitted hop, and after any permitted hop
      -- home is assured again.
      pub home_hop : {x y : ℕ} → Assured w h C hx hy x y → Apart x y hx hy → (a : ℕ) × (b : ℕ) × Permitted w h C hx hy x y a b
      home_hop = WayHome.home_hop w h sides C (shown_on w h s) stable told hx hy

      pub hop_assured : {x y a b : ℕ} → Assured w h C hx hy x y → Permitted w h C hx hy x y a b → Assured w h C hx hy a b
      hop_assured = WayHome.hop_assured

      -- Wherever a sequence of permitted hops leads from an assured place, the crossing is shown
      -- open, "and no cart stands on a rock that stops it"; hops taken and hops left make the
      -- distance.
      pub hops_open : {x y n a b : ℕ} → Assured w h C hx hy x y → Taken w h C hx hy x y n a b → ShownOpen w h s a b
      hops_open {a = a} {b = b} k l = open_shown w h s taken.bytes a b (WayHome.taken_open k.place l)

      pub hops_no_rock : {x y n a b : ℕ} → Assured w h C hx hy x y → Taken w h C hx hy x y n a b → ¬ R a b
      hops_no_rock {a = a} {b = b} k l r = let o = WayHome.taken_open k.place l in o.free (taken.rocks a b o.on r)

      pub hops_count : {x y n a b : ℕ} → Taken w h C hx hy x y n a b → n + dist a b hx hy ≡ dist x y hx hy
      hops_count = WayHome.taken_count

      -- It can always be continued until home.
      pub hops_continue : {x y n a b : ℕ} → Assured w h C hx hy x y → Taken w h C hx hy x y n a b → Taken w h C hx hy a b (dist a b hx hy) hx hy
      hops_continue = WayHome.taken_continues w h sides C (shown_on w h s) stable told hx hy

      -- It ends at home and nowhere else, after exactly as many hops as the distance.
      pub hops_end : {x y n a b : ℕ} → Assured w h C hx hy x y → Taken w h C hx hy x y n a b → ((c d : ℕ) → ¬ Permitted w h C hx hy a b c d)
          → There hx hy a b × (n ≡ dist x y hx hy)
      hops_end = WayHome.taken_ends w h sides C (shown_on w h s) stable told hx hy

  -- "The labelling is one such sheet": and it shows closed just what is closed.
  module _ (sheet : LabelSheet R w h s) where
    label_of : (x y : ℕ) → Label R w h x y (at s w x y) → at s w x y ≤ 2
    label_of x y (is_open e o) = omega arith
    label_of x y (is_rock e k) = omega arith
    label_of x y (is_shut e k) = omega arith

    labels : LabelBytes s
    labels i l = go (crossing w h i (omega (arith, sheet.size)))
      where
        go : Crossing w h i → get_or s i 0 ≤ 2
        go c = subst (λ (k : ℕ). get_or s k 0 ≤ 2) c.is (label_of c.x c.y (sheet.label c.x c.y c.on))

    draws : Draws w h (Closed R w h) s
    draws = label_sheet_draws R w h s sheet

    pub labelling_shows : Alike C (Closed R w h)
    labelling_shows x y = (λ c. draws.sound x y (shown_marked w h s x y c), λ k. marked_shown w h s labels x y (draws.complete x y k))

    pub labelling_taken : SheetTaken R w h s
    labelling_taken =
        record {
          bytes = labels;
          rocks = λ x y o r. (labelling_shows x y).1 (rock o r);
          none_between = λ x y a b c d o n m t p q.
              (MorningLaws.shown_open w h s x y o).free
              ((labelling_shows x y).1 (between o.on n m t ((labelling_shows a b).0 p) ((labelling_shows c d).0 q)));
        }

  -- "one with every crossing closed is another", whatever the rocks are.
  pub all_closed_taken : length s ≡ h * w → ((x y : ℕ) → On w h x y → C x y) → SheetTaken R w h s
  all_closed_taken size all =
      record {
        bytes = λ i l. go i (crossing w h i (omega arith));
        rocks = λ x y o r. all x y o;
        none_between = λ x y a b c d o n m t p q. (MorningLaws.shown_open w h s x y o).free (all x y o.on);
      }
    where
      byte : {b : ℕ} → (b ≡ 1) ⊎ (b ≡ 2) → b ≤ 2
      byte (inl e) = omega arith
      byte (inr e) = omega arith

      go : (i : ℕ) → Crossing w h i → get_or s i 0 ≤ 2
      go i c = subst (λ (k : ℕ). get_or s k 0 ≤ 2) c.is (byte (all c.x c.y c.on).label)

-- Sheets of one closed label: all rock, or all shut.
pub one_label_taken : (R : ℕ → ℕ → Type 0) (w h b : ℕ) → (b ≡ 1) ⊎ (b ≡ 2) → SheetTaken R w h (replicate (h * w) b)
one_label_taken R w h b label =
    all_closed_taken R w h (replicate (h * w) b) (length-replicate (h * w) b) (λ x y o.
    record { on = o; label = subst (λ (k : ℕ). (k ≡ 1) ⊎ (k ≡ 2)) (is x y o) label })
  where
    is : (x y : ℕ) → On w h x y → b ≡ at (replicate (h * w) b) w x y
    is x y o = cc (get_or-replicate (h * w) (y * w + x) b 0 (number_lt w h x y o))

-- Rocks that come and go: a sheet taken stays taken as long as every new rock stands on a crossing
-- that it shows closed. So it does when rocks get fewer, and when one is added on such a crossing.
module _ {R Q : ℕ → ℕ → Type 0} {w h : ℕ} {s : List ℕ} where
  pub taken_moved : ((x y : ℕ) → On w h x y → Q x y → R x y ⊎ ShownClosed w h s x y) → SheetTaken R w h s → SheetTaken Q w h s
  taken_moved f t = record { bytes = t.bytes; rocks = λ x y o q. go x y o (f x y o q); none_between = t.none_between }
    where
      go : (x y : ℕ) → On w h x y → R x y ⊎ ShownClosed w h s x y → ShownClosed w h s x y
      go x y o (inl r) = t.rocks x y o r
      go x y o (inr c) = c

  pub taken_fewer : ((x y : ℕ) → Q x y → R x y) → SheetTaken R w h s → SheetTaken Q w h s
  taken_fewer f = taken_moved (λ x y o q. inl (f x y q))

  pub taken_added : (a b : ℕ) → ShownClosed w h s a b → ((x y : ℕ) → Q x y → R x y ⊎ ((x ≡ a) × (y ≡ b))) → SheetTaken R w h s → SheetTaken Q w h s
  taken_added a b c f = taken_moved (λ x y o q. go x y (f x y q))
    where
      go : (x y : ℕ) → R x y ⊎ ((x ≡ a) × (y ≡ b)) → R x y ⊎ ShownClosed w h s x y
      go x y (inl r) = inl r
      go x y (inr e) = inr (rw (e.0, e.1) c)
