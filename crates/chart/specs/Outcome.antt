-- The program has one text for a file: a line is printed in one way, and a picture's signs are
-- those of the labels.
use Rattle.std.specs.Prelude.{◌≡◌, List, ◌++◌, ◌⊎◌, ℕ, ◌+◌, ◌*◌, ◌-◌, ◌<◌, ◌≤◌, length, get_or, take, drop}
use Rattle.std.proofs.Common.{sym, ap, ap₂, ◌∙◌, inl, inr, arith, take-append-drop, ext_get_or, length-take-le}
use Rattle.std.proofs.Math.Decide.{dec_lt}
use Rattle.field.specs.Workings.Sheet.{Crossing, crossing}
use Rattle.field.proofs.Workings.Labelling.{label_one}
use Rattle.field.proofs.Workings.Counting.{count_one}
use Rattle.field.specs.Map.{most_markers}
use Rattle.mapfile.specs.File.{FileRock, MapFile, NoSlot, markers_of}
use Rattle.mapfile.proofs.FileLaws.{map_file_one, file_fault_one, fault_no_map}
use Rattle.printing.specs.PrintLaws.{printed_one, line_one}
use Rattle.chart.specs.Promise.{
  Sign,
  open-sign,
  rock_sign,
  shut_sign,
  Picture,
  Charted,
  too_long,
  Refusal,
  fault,
  too_many,
  not_taken,
  shown,
}
use Rattle.chart.specs.Parts.{Shown}

sign_one : {b c d : ℕ} → Sign b c → Sign b d → c ≡ d
sign_one (open-sign e p) (open-sign f q) = p ∙ sym q
sign_one (open-sign e p) (rock_sign f q) = absurd (omega arith)
sign_one (open-sign e p) (shut_sign f q) = absurd (omega arith)
sign_one (rock_sign e p) (open-sign f q) = absurd (omega arith)
sign_one (rock_sign e p) (rock_sign f q) = p ∙ sym q
sign_one (rock_sign e p) (shut_sign f q) = absurd (omega arith)
sign_one (shut_sign e p) (open-sign f q) = absurd (omega arith)
sign_one (shut_sign e p) (rock_sign f q) = absurd (omega arith)
sign_one (shut_sign e p) (shut_sign f q) = p ∙ sym q

module _ (R : ℕ → ℕ → Type 0) (w h : ℕ) where
  -- Each byte of a picture is the sign of a crossing, or the LF at the end of a row.
  picture_one : {l k : List ℕ} → Picture R w h l → Picture R w h k → l ≡ k
  picture_one {l} {k} p q = ext_get_or 0 l k (p.size ∙ sym q.size) (λ i m. by_place i (crossing (w + 1) h i (omega (arith, p.size))))
    where
      at_sign : (r x : ℕ) → r < h → x < w → get_or l (r * (w + 1) + x) 0 ≡ get_or k (r * (w + 1) + x) 0
      at_sign r x a b =
          let s = p.sign r x a b in
          let t = q.sign r x a b in
          let label : t.0 ≡ s.0 = label_one R w h x (h - (r + 1)) t.0 s.0 t.1 s.1 in
          sign_one s.2 (rw label at t.2)

      go : (r x : ℕ) → r < h → x < w + 1 → Dec (x < w) → get_or l (r * (w + 1) + x) 0 ≡ get_or k (r * (w + 1) + x) 0
      go r x a b (yes m) = at_sign r x a m
      go r x a b (no m) =
          let last : x ≡ w = omega arith in
          rw last (p.end r a ∙ sym (q.end r a))

      by_place : (i : ℕ) → Crossing (w + 1) h i → get_or l i 0 ≡ get_or k i 0
      by_place i c = rw c.is at (go c.y c.x c.on.in_y c.on.in_x (dec_lt c.x w))

  shown_one : {text other : List ℕ} → Shown R w h text → Shown R w h other → text ≡ other
  shown_one {text} {other} p q =
      let rocks : p.rocks ≡ q.rocks = count_one w h p.rocks_are q.rocks_are in
      let shut : p.shut ≡ q.shut = count_one w h p.shut_are q.shut_are in
      let groups : p.groups ≡ q.groups = count_one w h p.groups_are q.groups_are in
      let line : p.line ≡ q.line = line_one (cc) p.line_is q.line_is in
      let picture : p.picture ≡ q.picture = picture_one p.picture_is q.picture_is in
      p.is ∙ rw (line, picture) (sym q.is)

-- The text of one map, said of another that is the same.
shown_moved : {w h w' h' : ℕ} {bits bits' text : List ℕ} → w ≡ w' → h ≡ h' → bits ≡ bits' → Shown (FileRock w' h' bits') w' h' text
    → Shown (FileRock w h bits) w h text
shown_moved p q r s = rw (p, q, r) s

-- A file has one refusal at most, and one that has a refusal is no map that is shown.
no_slot_many : {file : List ℕ} → NoSlot file most_markers → {w h : ℕ} {bits : List ℕ} → MapFile file w h bits → ¬ (length (markers_of w h bits) ≤ most_markers)
no_slot_many {file} n {w} {h} {bits} m l = go n.many
  where
    same : length (markers_of n.w n.h n.bits) ≡ length (markers_of w h bits)
    same = let e = map_file_one n.map m in rw (e.0, e.1, e.2)

    go : (most_markers < length (markers_of n.w n.h n.bits)) ⊎ (most_markers < length (markers_of n.w n.h n.bits)) → ⊥
    go (inl k) = omega (arith, same)
    go (inr k) = omega (arith, same)

refusal_one : {file : List ℕ} {n m : ℕ} → Refusal file n → Refusal file m → n ≡ m
refusal_one (fault f) (fault g) = file_fault_one f g
refusal_one (fault f) (too_many s e) = absurd (fault_no_map f s.map)
refusal_one (too_many s e) (fault f) = absurd (fault_no_map f s.map)
refusal_one (too_many s e) (too_many t f) = e ∙ sym f

refusal_no_map : {file bits : List ℕ} {n w h : ℕ} → Refusal file n → MapFile file w h bits → ¬ (length (markers_of w h bits) ≤ most_markers)
refusal_no_map (fault f) m = absurd (fault_no_map f m)
refusal_no_map (too_many s e) m = no_slot_many s m

-- Two texts that the promise allows for a file are equal.
pub charted_one : {file text other : List ℕ} → Charted file text → Charted file other → text ≡ other
charted_one (too_long l e) (too_long m f) = e ∙ sym f
charted_one (too_long l e) (not_taken n d m t p f) = absurd (omega arith)
charted_one (too_long l e) (shown w h rocks shut groups bits line picture m g k a b c u v f) = absurd (omega arith)
charted_one (not_taken n d l t p e) (too_long m f) = absurd (omega arith)
charted_one (not_taken n d l t p e) (not_taken n' d' m t' p' f) =
    let number : n ≡ n' = refusal_one t t' in
    let printed : d ≡ d' = printed_one p (rw number p') in
    e ∙ rw printed (sym f)
charted_one (not_taken n d l t p e) (shown w h rocks shut groups bits line picture m g k a b c u v f) = absurd (refusal_no_map t g k)
charted_one (shown w h rocks shut groups bits line picture l g k a b c u v e) (too_long m f) = absurd (omega arith)
charted_one (shown w h rocks shut groups bits line picture l g k a b c u v e) (not_taken n d m t p f) = absurd (refusal_no_map t g k)
charted_one {file} {text} {other} (shown w h rocks shut groups bits line picture l g k a b c u v e)
    (shown w' h' rocks' shut' groups' bits' line' picture' m g' k' a' b' c' u' v' f) =
    let same = map_file_one g g' in
    shown_one (FileRock w h bits) w h one (shown_moved same.0 same.1 same.2 two)
  where
    one : Shown (FileRock w h bits) w h text
    one =
        record {
          rocks = rocks;
          shut = shut;
          groups = groups;
          line = line;
          picture = picture;
          rocks_are = a;
          shut_are = b;
          groups_are = c;
          line_is = u;
          picture_is = v;
          is = e;
        }

    two : Shown (FileRock w' h' bits') w' h' other
    two =
        record {
          rocks = rocks';
          shut = shut';
          groups = groups';
          line = line';
          picture = picture';
          rocks_are = a';
          shut_are = b';
          groups_are = c';
          line_is = u';
          picture_is = v';
          is = f;
        }

-- And so one length and one output: the text at the front, and what stood past it.
pub chart_one : (out : List ℕ) {file a b : List ℕ} {r q : ℕ} → r ≤ length a → q ≤ length b → Charted file (take r a) → Charted file (take q b)
    → drop r a ≡ drop r out → drop q b ≡ drop q out → (r ≡ q) × (a ≡ b)
chart_one out {file} {a} {b} {r} {q} l m t u d e = (same, whole)
  where
    text : take r a ≡ take q b
    text = charted_one t u

    same : r ≡ q
    same = sym (length-take-le r a l) ∙ ap length text ∙ length-take-le q b m

    whole : a ≡ b
    whole =
        sym (take-append-drop r a)
        ∙ ap₂ (λ (f g : List ℕ). f ++ g) text (d ∙ ap (λ (n : ℕ). drop n out) same ∙ sym e)
        ∙ take-append-drop q b
