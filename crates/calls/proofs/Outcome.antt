-- One outcome: for every input, refusals too, two outcomes that a call's promise allows are equal,
-- the answer and every lent byte, slot and number. The table gives one number; at 0 each meaning
-- has one value, and at a refusal everything is said outright.
use Rattle.std.specs.Prelude.{◌≡◌, List, ◌++◌, ℕ, length, drop}
use Rattle.std.proofs.Common.{sym, ap, ap₂, ◌∙◌, inl, inr, arith}
use Rattle.std.proofs.Math.Decide.{ℕ_discrete}
use Rattle.field.specs.declared.Marker.{Marker}
use Rattle.field.proofs.Workings.Counting.{count_one}
use Rattle.field.proofs.Workings.DistanceLaws
use Rattle.field.proofs.Workings.ChooserLaws.{driven_one}
use Rattle.markers.proofs.Laws.Entering.{entered_one}
use Rattle.markers.proofs.Laws.Clearing.{cleared_one}
use Rattle.mapfile.specs.File.{MapFile, NoSlot, markers_of}
use Rattle.mapfile.proofs.FileLaws.{map_file_one, file_fault_one, fault_no_map}
use Rattle.mapfile.proofs.WrittenLaws.{written_one}
use Rattle.calls.specs.Rules
use Rattle.calls.specs.Rules.{gives_one, LentMap, markers_in, RocksOf, ClosedBy}
use Rattle.calls.specs.RuleLaws.{gives_none, formed_holds}
use Rattle.calls.specs.Answers.{no_count, no_labelling, no_four, no_assurance, no_hop, no_map, no_bytes, ReadFault}
use Rattle.calls.specs.Calls.{
  EnterCall,
  ClearCall,
  LabelCall,
  DistancesCall,
  MeasureCall,
  AssuredCall,
  HopCall,
  RegionCall,
  DriveCall,
  RouteCall,
  ReadCall,
  WriteCall,
}
use Rattle.calls.specs.OutcomeLaws.{
  labels_after_one,
  region_after_one,
  distances_after_one,
  route_after_one,
  refused_one,
  hops_named_one,
  counted_same,
  drove_same,
  wrote_same,
  four_same,
  assurance_same,
  labelling_same,
  read_same,
  both_true,
  rocks_told,
}
use Rattle.calls.specs.declared.Counted.{Counted}
use Rattle.calls.specs.declared.Labelling.{Labelling}
use Rattle.calls.specs.declared.Four.{Four}
use Rattle.calls.specs.declared.Assurance.{Assurance}
use Rattle.calls.specs.declared.Homeward.{Homeward}
use Rattle.calls.specs.declared.Drove.{Drove}
use Rattle.calls.specs.declared.ReadMap.{ReadMap}
use Rattle.calls.specs.declared.WroteMap.{WroteMap}

module _ {m : LentMap} where
  pub enter_one : {id x y height : ℕ} {a b : List Marker} {r s : Counted} → EnterCall m id x y height a r → EnterCall m id x y height b s → (r ≡ s) × (a ≡ b)
  enter_one {id} {x} {y} {a} {b} {r} {s} p q = go (ℕ_discrete r.refusal 0)
    where
      e : r.refusal ≡ s.refusal
      e = gives_one (Rules.enter_table m id x y) _ _ p.given q.given

      go : Dec (r.refusal ≡ 0) → (r ≡ s) × (a ≡ b)
      go (yes z) =
          let u = p.done z in
          let v = q.done (sym e ∙ z) in
          (counted_same e (u.counted ∙ sym v.counted), entered_one u.list v.list)
      go (no z) =
          let z' : ¬ (s.refusal ≡ 0) = λ k. z (e ∙ k) in
          (refused_one no_count e (p.refused z) (q.refused z'), p.kept z ∙ sym (q.kept z'))

  pub clear_one : {id : ℕ} {a b : List Marker} {r s : Counted} → ClearCall m id a r → ClearCall m id b s → (r ≡ s) × (a ≡ b)
  clear_one {id} {a} {b} {r} {s} p q = go (ℕ_discrete r.refusal 0)
    where
      e : r.refusal ≡ s.refusal
      e = gives_one (Rules.clear_table m id) _ _ p.given q.given

      go : Dec (r.refusal ≡ 0) → (r ≡ s) × (a ≡ b)
      go (yes z) =
          let u = p.done z in
          let v = q.done (sym e ∙ z) in
          let none = gives_none (Rules.clear_table m id) 0 r.refusal (omega arith) p.given z in
          (counted_same e (omega (arith, u.counted, v.counted)), cleared_one (formed_holds none.1.0).rising u.list v.list)
      go (no z) =
          let z' : ¬ (s.refusal ≡ 0) = λ k. z (e ∙ k) in
          (refused_one no_count e (p.refused z) (q.refused z'), p.kept z ∙ sym (q.kept z'))

  pub label_one : {labels a b : List ℕ} {r s : Labelling} → LabelCall m labels a r → LabelCall m labels b s → (r ≡ s) × (a ≡ b)
  label_one {labels} {a} {b} {r} {s} p q = (go (ℕ_discrete r.refusal 0), labels_after_one e p.labels_after q.labels_after)
    where
      e : r.refusal ≡ s.refusal
      e = gives_one (Rules.label_table m labels) _ _ p.given q.given

      go : Dec (r.refusal ≡ 0) → r ≡ s
      go (yes z) =
          let u = p.done z in
          let v = q.done (sym e ∙ z) in
          labelling_same e (count_one m.width m.height u.rocks v.rocks) (count_one m.width m.height u.shut v.shut)
          (count_one m.width m.height u.groups v.groups)
      go (no z) = refused_one no_labelling e (p.refused z) (q.refused (λ k. z (e ∙ k)))

  pub distances_one : {x y : ℕ} {labels a b : List ℕ} {r s : Four} → DistancesCall m x y labels a r → DistancesCall m x y labels b s → (r ≡ s) × (a ≡ b)
  distances_one {x} {y} {labels} {a} {b} {r} {s} p q = (go (ℕ_discrete r.refusal 0), labels_after_one e p.labels_after q.labels_after)
    where
      e : r.refusal ≡ s.refusal
      e = gives_one (Rules.distances_table m x y labels) _ _ p.given q.given

      go : Dec (r.refusal ≡ 0) → r ≡ s
      go (yes z) = four_same e (DistanceLaws.distances_one (p.done z) (q.done (sym e ∙ z)))
      go (no z) = refused_one no_four e (p.refused z) (q.refused (λ k. z (e ∙ k)))

  pub measure_one : {labels e s f n a e₁ s₁ f₁ n₁ b e₂ s₂ f₂ n₂ : List ℕ} {r t : ℕ} → MeasureCall m labels e s f n a e₁ s₁ f₁ n₁ r
      → MeasureCall m labels e s f n b e₂ s₂ f₂ n₂ t → (r ≡ t) × (a ≡ b) × (e₁ ≡ e₂) × (s₁ ≡ s₂) × (f₁ ≡ f₂) × (n₁ ≡ n₂)
  measure_one {labels} {e} {s} {f} {n} {r = r} {t = t} p q =
      let same : r ≡ t = gives_one (Rules.measure_table m labels e s f n) _ _ p.given q.given in (
        same,
        labels_after_one same p.labels_after q.labels_after,
        distances_after_one same p.east_after q.east_after,
        distances_after_one same p.south_after q.south_after,
        distances_after_one same p.west_after q.west_after,
        distances_after_one same p.north_after q.north_after,
      )

  pub assured_one : {hx hy x y : ℕ} {labels a b : List ℕ} {r s : Assurance} → AssuredCall m hx hy x y labels a r
      → AssuredCall m hx hy x y labels b s → (r ≡ s) × (a ≡ b)
  assured_one {hx} {hy} {x} {y} {labels} {a} {b} {r} {s} p q = (go (ℕ_discrete r.refusal 0), labels_after_one e p.labels_after q.labels_after)
    where
      e : r.refusal ≡ s.refusal
      e = gives_one (Rules.assured_table m hx hy x y labels) _ _ p.given q.given

      go : Dec (r.refusal ≡ 0) → r ≡ s
      go (yes z) = assurance_same e (both_true r.assured s.assured (p.done z) (q.done (sym e ∙ z)))
      go (no z) = refused_one no_assurance e (p.refused z) (q.refused (λ k. z (e ∙ k)))

  pub hop_one : {hx hy x y : ℕ} {labels a b : List ℕ} {r s : Homeward} → HopCall m hx hy x y labels a r → HopCall m hx hy x y labels b s
      → (r ≡ s) × (a ≡ b)
  hop_one {hx} {hy} {x} {y} {labels} {a} {b} {r} {s} p q = (go (ℕ_discrete r.refusal 0), labels_after_one e p.labels_after q.labels_after)
    where
      e : r.refusal ≡ s.refusal
      e = gives_one (Rules.hop_table m hx hy x y labels) _ _ p.given q.given

      go : Dec (r.refusal ≡ 0) → r ≡ s
      go (yes z) = hops_named_one (p.done z) (q.done (sym e ∙ z))
      go (no z) = refused_one no_hop e (p.refused z) (q.refused (λ k. z (e ∙ k)))

  pub region_one : {sx sy dx dy : ℕ} {labels region a c b d : List ℕ} {r s : ℕ} → RegionCall m sx sy dx dy labels region a c r
      → RegionCall m sx sy dx dy labels region b d s → (r ≡ s) × (a ≡ b) × (c ≡ d)
  region_one {sx} {sy} {dx} {dy} {labels} {region} {r = r} {s = s} p q =
      let e : r ≡ s = gives_one (Rules.region_table m sx sy dx dy labels region) _ _ p.given q.given in
      (e, labels_after_one e p.labels_after q.labels_after, region_after_one e p.region_after q.region_after)

  pub drive_one : {sx sy dx dy : ℕ} {labels region route a c i b d j : List ℕ} {state z z' : ℕ} {r s : Drove}
      → DriveCall m sx sy dx dy labels region route state a c i z r → DriveCall m sx sy dx dy labels region route state b d j z' s
      → (r ≡ s) × (a ≡ b) × (c ≡ d) × (i ≡ j) × (z ≡ z')
  drive_one {sx} {sy} {dx} {dy} {labels} {region} {route} {r = r} {s = s} p q =
      let e : r.refusal ≡ s.refusal = gives_one (Rules.drive_table m sx sy dx dy labels region route) _ _ p.given q.given in
      let t = route_after_one e p.route_after q.route_after in (
        drove_same e t.0,
        labels_after_one e p.labels_after q.labels_after,
        region_after_one e p.region_after q.region_after,
        t.1,
        t.2,
      )

  pub route_one : {sx sy dx dy : ℕ} {labels region route a c i b d j : List ℕ} {state r s z z' : ℕ} {from at at' : ℕ × ℕ}
      → RouteCall m sx sy dx dy labels region route state a c i r z from at → RouteCall m sx sy dx dy labels region route state b d j s z' from at'
      → (i ≡ j) × (r ≡ s) × (z ≡ z') × (a ≡ b) × (c ≡ d) × (at ≡ at')
  route_one {sx} {sy} {dx} {dy} {labels} {region} {route} {i = i} {j = j} {r = r} {s = s} {z = z} {z' = z'} p q =
      let t = go (ℕ_discrete r 0) in
      (t.0, e, t.1, labels_after_one e p.labels_after q.labels_after, region_after_one e p.region_after q.region_after, p.leading ∙ sym q.leading)
    where
      e : r ≡ s
      e = gives_one (Rules.drive_table m sx sy dx dy labels region route) _ _ p.given q.given

      go : Dec (r ≡ 0) → (i ≡ j) × (z ≡ z')
      go (yes k) = driven_one m.width m.height (ClosedBy m) sx sy dx dy (p.driven k) (q.driven (sym e ∙ k))
      go (no k) =
          let k' : ¬ (s ≡ 0) = λ d. k (e ∙ d) in
          (p.empty k ∙ sym (q.empty k'), p.still k ∙ sym (q.still k'))

  pub write_one : {out a b : List ℕ} {r s : WroteMap} → WriteCall m out a r → WriteCall m out b s → (r ≡ s) × (a ≡ b)
  write_one {out} {a} {b} {r} {s} p q = go (ℕ_discrete r.refusal 0)
    where
      e : r.refusal ≡ s.refusal
      e = gives_one (Rules.write_table m out) _ _ p.given q.given

      go : Dec (r.refusal ≡ 0) → (r ≡ s) × (a ≡ b)
      go (yes z) =
          let u = p.done z in
          let v = q.done (sym e ∙ z) in
          let f : u.file ≡ v.file =
          written_one m.width m.height (RocksOf m) (rocks_told m.clearance (markers_in m) m.width m.height) u.file v.file u.written v.written in (
            wrote_same e (u.counted ∙ ap length f ∙ sym v.counted),
            u.is ∙ ap (λ (l : List ℕ). l ++ drop (length l) out) f ∙ sym v.is,
          )
      go (no z) =
          let z' : ¬ (s.refusal ≡ 0) = λ k. z (e ∙ k) in
          (refused_one no_bytes e (p.refused z) (q.refused z'), p.kept z ∙ sym (q.kept z'))

-- A file is a map or has a fault, and never both; a map's rocks find slots or do not.
pub read_one : {file : List ℕ} {list a b : List Marker} {r s : ReadMap} → ReadCall file list a r → ReadCall file list b s → (r ≡ s) × (a ≡ b)
read_one {file} {list} {a} {b} {r} {s} p q = go (ℕ_discrete r.refusal 0) (ℕ_discrete s.refusal 0)
  where
    faults : (n m : ℕ) → ReadFault file (length list) n → ReadFault file (length list) m → n ≡ m
    faults n m (inl f) (inl g) = file_fault_one f g
    faults n m (inl f) (inr g) = absurd (fault_no_map f g.0.map)
    faults n m (inr f) (inl g) = absurd (fault_no_map g f.0.map)
    faults n m (inr f) (inr g) = f.1 ∙ sym g.1

    never : {n v k : ℕ} {bits : List ℕ} → MapFile file v k bits → ¬ NoSlot file (length list) → ReadFault file (length list) n → ⊥
    never m t (inl f) = fault_no_map f m
    never m t (inr f) = t f.0

    go : Dec (r.refusal ≡ 0) → Dec (s.refusal ≡ 0) → (r ≡ s) × (a ≡ b)
    go (yes z) (yes z') =
        let u = p.done z in
        let v = q.done z' in
        let m = map_file_one u.map v.map in
        let k : markers_of r.width r.height u.bits ≡ markers_of s.width s.height v.bits = cc in
        let n : r.count ≡ s.count = u.counted ∙ ap length k ∙ sym v.counted in
        (read_same (z ∙ sym z') m.0 m.1 n, u.slots ∙ ap₂ (λ (l : List Marker) (i : ℕ). l ++ drop i list) k n ∙ sym v.slots)
    go (yes z) (no z') = let u = p.done z in absurd (never u.map u.room (q.given z'))
    go (no z) (yes z') = let v = q.done z' in absurd (never v.map v.room (p.given z))
    go (no z) (no z') = (refused_one no_map (faults _ _ (p.given z) (q.given z')) (p.refused z) (q.refused z'), p.kept z ∙ sym (q.kept z'))
