-- Document 01's table, call by call: "Exactly when". Each number that a call can give is given
-- exactly where its row applies and no row with a lower number does; 0 exactly where none applies.
-- Reading a file goes in its own order.
use Rattle.std.specs.Prelude.{◌≡◌, List, ◌↔◌, ℕ, length}
use Rattle.std.proofs.Common.{sym, subst, ◌∙◌, inl, inr, arith}
use Rattle.std.proofs.Math.Decide.{ℕ_discrete}
use Rattle.field.specs.declared.Marker.{Marker}
use Rattle.field.specs.Refusals.{no_slot}
use Rattle.mapfile.specs.Raster.{raw_short, raw_long, plain_foreign, plain_short, plain_long}
use Rattle.mapfile.specs.File.{Format, plain, raw, RasterFault, MapFile, FileFault, no_letters, no_header, no_sides, no_raster, NoSlot}
use Rattle.mapfile.proofs.FileLaws.{file_fault_one, fault_no_map}
use Rattle.calls.specs.Rules
use Rattle.calls.specs.Rules.{LentMap}
use Rattle.calls.specs.Answers.{ReadFault}
use Rattle.calls.specs.RuleLaws.{Exactly, exactly}
use Rattle.calls.specs.Calls.{
  EnterCall,
  ClearCall,
  LabelCall,
  DistancesCall,
  MeasureCall,
  AssuredCall,
  HopCall,
  RegionCall,
  DriveCall,
  RouteCall,
  ReadCall,
  WriteCall,
}
use Rattle.calls.specs.declared.Counted.{Counted}
use Rattle.calls.specs.declared.Labelling.{Labelling}
use Rattle.calls.specs.declared.Four.{Four}
use Rattle.calls.specs.declared.Assurance.{Assurance}
use Rattle.calls.specs.declared.Homeward.{Homeward}
use Rattle.calls.specs.declared.Drove.{Drove}
use Rattle.calls.specs.declared.ReadMap.{ReadMap}
use Rattle.calls.specs.declared.WroteMap.{WroteMap}

module _ {m : LentMap} where
  pub enter_exactly : {id x y height : ℕ} {list' : List Marker} {r : Counted} → EnterCall m id x y height list' r
      → Exactly (Rules.enter_table m id x y) r.refusal
  enter_exactly {id} {x} {y} c = exactly (Rules.enter_table m id x y) _ (omega arith) c.given

  pub clear_exactly : {id : ℕ} {list' : List Marker} {r : Counted} → ClearCall m id list' r
      → Exactly (Rules.clear_table m id) r.refusal
  clear_exactly {id} c = exactly (Rules.clear_table m id) _ (omega arith) c.given

  pub label_exactly : {labels labels' : List ℕ} {r : Labelling} → LabelCall m labels labels' r
      → Exactly (Rules.label_table m labels) r.refusal
  label_exactly {labels} c = exactly (Rules.label_table m labels) _ (omega arith) c.given

  pub distances_exactly : {x y : ℕ} {labels labels' : List ℕ} {r : Four} → DistancesCall m x y labels labels' r
      → Exactly (Rules.distances_table m x y labels) r.refusal
  distances_exactly {x} {y} {labels} c = exactly (Rules.distances_table m x y labels) _ (omega arith) c.given

  pub measure_exactly : {labels e s f n labels' e' s' f' n' : List ℕ} {r : ℕ} → MeasureCall m labels e s f n labels' e' s' f' n' r
      → Exactly (Rules.measure_table m labels e s f n) r
  measure_exactly {labels} {e} {s} {f} {n} c = exactly (Rules.measure_table m labels e s f n) _ (omega arith) c.given

  pub assured_exactly : {hx hy x y : ℕ} {labels labels' : List ℕ} {r : Assurance} → AssuredCall m hx hy x y labels labels' r
      → Exactly (Rules.assured_table m hx hy x y labels) r.refusal
  assured_exactly {hx} {hy} {x} {y} {labels} c = exactly (Rules.assured_table m hx hy x y labels) _ (omega arith) c.given

  pub hop_exactly : {hx hy x y : ℕ} {labels labels' : List ℕ} {r : Homeward} → HopCall m hx hy x y labels labels' r
      → Exactly (Rules.hop_table m hx hy x y labels) r.refusal
  hop_exactly {hx} {hy} {x} {y} {labels} c = exactly (Rules.hop_table m hx hy x y labels) _ (omega arith) c.given

  pub region_exactly : {sx sy dx dy : ℕ} {labels region labels' region' : List ℕ} {r : ℕ}
      → RegionCall m sx sy dx dy labels region labels' region' r → Exactly (Rules.region_table m sx sy dx dy labels region) r
  region_exactly {sx} {sy} {dx} {dy} {labels} {region} c = exactly (Rules.region_table m sx sy dx dy labels region) _ (omega arith) c.given

  pub drive_exactly : {sx sy dx dy : ℕ} {labels region route labels' region' route' : List ℕ} {state state' : ℕ} {r : Drove}
      → DriveCall m sx sy dx dy labels region route state labels' region' route' state' r
      → Exactly (Rules.drive_table m sx sy dx dy labels region route) r.refusal
  drive_exactly {sx} {sy} {dx} {dy} {labels} {region} {route} c =
      exactly (Rules.drive_table m sx sy dx dy labels region route) _ (omega arith) c.given

  pub route_exactly : {sx sy dx dy : ℕ} {labels region route labels' region' part : List ℕ} {state number state' : ℕ} {from at : ℕ × ℕ}
      → RouteCall m sx sy dx dy labels region route state labels' region' part number state' from at
      → Exactly (Rules.drive_table m sx sy dx dy labels region route) number
  route_exactly {sx} {sy} {dx} {dy} {labels} {region} {route} c =
      exactly (Rules.drive_table m sx sy dx dy labels region route) _ (omega arith) c.given

  pub write_exactly : {out out' : List ℕ} {r : WroteMap} → WriteCall m out out' r → Exactly (Rules.write_table m out) r.refusal
  write_exactly {out} c = exactly (Rules.write_table m out) _ (omega arith) c.given

-- Reading: "12, 13 in the header, 1, then the raster: at the first fault met 13, 14 or 15, then 7".
-- A fault's number is given exactly for a file with that fault, 7 exactly for a map whose rocks
-- find no slots, and 0 exactly for a map whose rocks do.
pub record ReadExactly (file : List ℕ) (lent n : ℕ) : Type 0 where
  pub fault : (k : ℕ) → FileFault file k ↔ ((n ≡ k) × (¬ (k ≡ 0)) × (¬ (k ≡ no_slot)))
  pub full : NoSlot file lent ↔ (n ≡ no_slot)
  pub map : ((w : ℕ) × (h : ℕ) × (bits : List ℕ) × MapFile file w h bits × (¬ NoSlot file lent)) ↔ (n ≡ 0)

-- The numbers of faults.
raster_number : (f : Format) (w h : ℕ) (l : List ℕ) (n : ℕ) → RasterFault f w h l n → (¬ (n ≡ 0)) × (¬ (n ≡ no_slot))
raster_number plain w h l n (plain_foreign bits front back b d m p e k) = omega arith
raster_number plain w h l n (plain_short bits d m k) = omega arith
raster_number plain w h l n (plain_long bits front back b d m p e k) = omega arith
raster_number raw w h l n (raw_short m k) = omega arith
raster_number raw w h l n (raw_long m k) = omega arith

pub fault_number : {file : List ℕ} {n : ℕ} → FileFault file n → (¬ (n ≡ 0)) × (¬ (n ≡ no_slot))
fault_number (no_letters f e) = omega arith
fault_number (no_header f after l g e) = omega arith
fault_number (no_sides f after body w h l g s e) = omega arith
fault_number {n = n} (no_raster f after body w h l g s r) = raster_number f w h body n r

pub read_exactly : {file : List ℕ} {list list' : List Marker} {r : ReadMap} → ReadCall file list list' r → ReadExactly file (length list) r.refusal
read_exactly {file} {list} {list'} {r} c = go (ℕ_discrete r.refusal 0)
  where
    -- The file is a map.
    success : r.refusal ≡ 0 → ReadExactly file (length list) r.refusal
    success z =
        let u = c.done z in
        record {
          fault = λ k. (λ f. absurd (fault_no_map f u.map), λ t. absurd (t.1 (sym t.0 ∙ z)));
          full = (λ s. absurd (u.room s), λ e. absurd (omega arith));
          map = (λ t. z, λ t. (r.width, r.height, u.bits, u.map, u.room));
        }

    refusal : ¬ (r.refusal ≡ 0) → ReadFault file (length list) r.refusal
        → ReadExactly file (length list) r.refusal
    refusal z (inl f) =
        record {
          fault = λ k. (λ g. (file_fault_one f g, (fault_number g).0, (fault_number g).1), λ t. subst (FileFault file) t.0 f);
          full = (λ s. absurd (fault_no_map f s.map), λ e. absurd ((fault_number f).1 e));
          map = (λ t. absurd (fault_no_map f t.3), λ e. absurd (z e));
        }
    refusal z (inr s) =
        record {
          fault = λ k. (λ g. absurd (fault_no_map g s.0.map), λ t. absurd (t.2 (sym t.0 ∙ s.1)));
          full = (λ t. s.1, λ e. s.0);
          map = (λ t. absurd (t.4 s.0), λ e. absurd (z e));
        }

    go : Dec (r.refusal ≡ 0) → ReadExactly file (length list) r.refusal
    go (yes z) = success z
    go (no z) = refusal z (c.given z)
