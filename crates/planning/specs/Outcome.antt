-- A run has one text for an input: what is left begins with one thing, a depot has one placing, and
-- a line is printed in one way.
use Rattle.std.specs.Prelude.{◌≡◌, List, [], ℕ, ◌<◌}
use Rattle.std.proofs.Common.{sym, ◌∙◌, arith}
use Rattle.field.specs.Labels.{Closed}
use Rattle.mapfile.specs.File.{FileRock}
use Rattle.field.specs.declared.Depot.{Depot}
use Rattle.field.specs.declared.Placing.{Placing}
use Rattle.field.proofs.Geometry.DepotLaws.{placed_one}
use Rattle.mapfile.specs.Following.{FirstMap, FirstRefused, FirstLong, a_map, refused, too_long}
use Rattle.mapfile.proofs.FollowingOutcome.{first_one}
use Rattle.printing.specs.PrintLaws.{line_one, refusal_line_one}
use Rattle.planning.specs.Promise.{
  most_maps,
  DepotLine,
  MapLines,
  Ends,
  all_read,
  bad_map,
  past_bytes,
  past_maps,
  Runs,
  ends,
  goes_on,
}

depot_line_one : {w h : ℕ} {C : ℕ → ℕ → Type 0} {d : Depot} {p q : Placing} {l k : List ℕ} → DepotLine w h C d p l → DepotLine w h C d q k → (p ≡ q) × (l ≡ k)
depot_line_one a b = let same = placed_one a.placed b.placed in (same, line_one (cc) a.printed b.printed)

-- One map's lines, and the sums after them.
lines_one : {w h : ℕ} {C : ℕ → ℕ → Type 0} {before after after' : Placing} {text other : List ℕ} → MapLines w h C before after text
    → MapLines w h C before after' other → (after ≡ after') × (text ≡ other)
lines_one a b =
    let sw = depot_line_one a.southwest b.southwest in
    let se = depot_line_one a.southeast b.southeast in
    let nw = depot_line_one a.northwest b.northwest in
    let ne = depot_line_one a.northeast b.northeast in (
      a.sums ∙ rw (sw.0, se.0, nw.0, ne.0) (sym b.sums),
      a.is ∙ rw (sw.1, se.1, nw.1, ne.1) (sym b.is),
    )

-- The lines of the map of these bits.
abbrev Told : ℕ → ℕ → List ℕ → Placing → Placing → List ℕ → Type 0
Told w h bits before after text = MapLines w h (Closed (FileRock w h bits) w h) before after text

pub map_lines_one : {w h w' h' : ℕ} {bits bits' : List ℕ} {before after after' : Placing} {text other : List ℕ} → w ≡ w' → h ≡ h' → bits ≡ bits'
    → Told w h bits before after text → Told w' h' bits' before after' other → (after ≡ after') × (text ≡ other)
map_lines_one p q r a b = lines_one a (rw (sym p, sym q, sym r) at b)

-- The first thing of what is left, as it is told apart.
map_not_refused : {l bits rest : List ℕ} {w h n : ℕ} → FirstMap l w h bits rest → ¬ FirstRefused l n
map_not_refused {l} {bits} {rest} {w} {h} {n} m f = let e = first_one l (a_map w h bits rest) (refused n) m f in let z : ◌≡◌ {A = ℕ} 0 1 = cc in omega arith

map_not_long : {l bits rest : List ℕ} {w h : ℕ} → FirstMap l w h bits rest → ¬ FirstLong l
map_not_long {l} {bits} {rest} {w} {h} m f = let e = first_one l (a_map w h bits rest) too_long m f in let z : ◌≡◌ {A = ℕ} 0 1 = cc in omega arith

refused_not_long : {l : List ℕ} {n : ℕ} → FirstRefused l n → ¬ FirstLong l
refused_not_long {l} {n} m f = let e = first_one l (refused n) too_long m f in let z : ◌≡◌ {A = ℕ} 0 1 = cc in omega arith

refused_one : {l : List ℕ} {n m : ℕ} → FirstRefused l n → FirstRefused l m → n ≡ m
refused_one {l} {n} {m} a b = let e = first_one l (refused n) (refused m) a b in cc

pub first_map_one : {l bits bits' rest rest' : List ℕ} {w h w' h' : ℕ} → FirstMap l w h bits rest → FirstMap l w' h' bits' rest'
    → (w ≡ w') × (h ≡ h') × (bits ≡ bits') × (rest ≡ rest')
first_map_one {l} {bits} {bits'} {rest} {rest'} {w} {h} {w'} {h'} a b =
    let e = first_one l (a_map w h bits rest) (a_map w' h' bits' rest') a b in ((cc), (cc), (cc), (cc))

-- No bytes begin with a map, nor are they too long.
pub none_first : {w h : ℕ} {bits rest : List ℕ} → ¬ FirstMap [] w h bits rest
none_first m = let e = m.map.begins.letters in let z : ◌≡◌ {A = ℕ} 0 1 = cc in omega arith

pub none_long : ¬ FirstLong []
none_long f = omega (arith, f.0)

-- Bytes that end the run do not begin with a map.
pub ends_no_map : {k w h : ℕ} {sums : Placing} {input text bits rest : List ℕ} → k < most_maps → Ends k sums input text → ¬ FirstMap input w h bits rest
ends_no_map l (all_read e f) m = none_first (rw e at m)
ends_no_map l (bad_map n k s f r) m = map_not_refused m f
ends_no_map l (past_bytes k f e) m = map_not_long m f
ends_no_map l (past_maps k s e) m = omega arith

pub ends_one : {k : ℕ} {sums : Placing} {input text other : List ℕ} → Ends k sums input text → Ends k sums input other → text ≡ other
ends_one (all_read e l) (all_read f m) = line_one (cc) l m
ends_one (all_read e l) (bad_map n k s f r) = absurd (s e)
ends_one (all_read e l) (past_bytes k f t) = absurd (none_long (rw e at f))
ends_one (all_read e l) (past_maps k s t) = absurd (s e)
ends_one (bad_map n k s f r) (all_read e l) = absurd (s e)
ends_one (bad_map n k s f r) (bad_map m k' s' f' r') = refusal_line_one r (rw (refused_one f f') r')
ends_one (bad_map n k s f r) (past_bytes k' f' t) = absurd (refused_not_long f f')
ends_one (bad_map n k s f r) (past_maps k' s' t) = absurd (omega arith)
ends_one (past_bytes k f t) (all_read e l) = absurd (none_long (rw e at f))
ends_one (past_bytes k f t) (bad_map n k' s f' r) = absurd (refused_not_long f' f)
ends_one (past_bytes k f t) (past_bytes k' f' t') = t ∙ sym t'
ends_one (past_bytes k f t) (past_maps k' s t') = t ∙ sym t'
ends_one (past_maps k s t) (all_read e l) = absurd (s e)
ends_one (past_maps k s t) (bad_map n k' s' f r) = absurd (omega arith)
ends_one (past_maps k s t) (past_bytes k' f t') = t ∙ sym t'
ends_one (past_maps k s t) (past_maps k' s' t') = t ∙ sym t'

-- Two texts that a run may have for an input are equal.
pub runs_one : {k k' : ℕ} {sums sums' : Placing} {input input' text other : List ℕ} → k ≡ k' → sums ≡ sums' → input ≡ input'
    → Runs k sums input text → Runs k' sums' input' other → text ≡ other
runs_one p q r (ends a) (ends b) = ends_one a (rw (p, q, r) b)
runs_one p q r (ends a) (goes_on l f m s e) = absurd (ends_no_map (omega arith) a (rw (sym r) at f))
runs_one p q r (goes_on l f m s e) (ends b) = absurd (ends_no_map (omega arith) b (rw r at f))
runs_one {k} {k'} {sums} {sums'} {input} {input'} p q r (goes_on l f m s e) (goes_on l' f' m' s' e') =
    let first = first_map_one f (rw (sym r) at f') in
    let lines = map_lines_one first.0 first.1 first.2 m (rw (sym q) at m') in
    let more = runs_one (omega arith) lines.0 first.3 s s' in
    e ∙ rw (lines.1, more) (sym e')
