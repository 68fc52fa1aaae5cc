-- How well a depot is placed (document 02, Req 05): the corners as depots, and the four numbers of
-- a depot. C tells the closed crossings.
use Rattle.std.specs.Prelude.{◌≡◌, ℕ, ◌-◌}
use Rattle.field.specs.declared.Depot.{Depot}
use Rattle.field.specs.declared.Depot.TheVariants.{SouthWest, SouthEast, NorthWest, NorthEast}
use Rattle.field.specs.declared.Placing.{Placing}
use Rattle.field.specs.Labels.{Open, Count}
use Rattle.field.specs.Distances.{Assured}
use Rattle.field.specs.Drives.{HasDrive}

-- "each corner as depot (southwest, southeast, northwest, northeast)": its x and its y, "x rising
-- to the east from 0, y rising to the north from 0".
abbrev pub depot_x : Depot → ℕ → ℕ
depot_x SouthWest w = 0
depot_x SouthEast w = w - 1
depot_x NorthWest w = 0
depot_x NorthEast w = w - 1

abbrev pub depot_y : Depot → ℕ → ℕ
depot_y SouthWest h = 0
depot_y SouthEast h = 0
depot_y NorthWest h = h - 1
depot_y NorthEast h = h - 1

-- The four numbers in their order; "all four are 0".
abbrev pub four : ℕ → ℕ → ℕ → ℕ → Placing
four o a d s = record { opens = o; assured = a; driven = d; stranded = s }

abbrev pub all_zero : Placing
all_zero = four 0 0 0 0

-- (dx, dy) is the depot.
module _ (w h : ℕ) (C : ℕ → ℕ → Type 0) (dx dy : ℕ) where
  -- "those not assured that have a shortest drive", of the open crossings.
  pub record DrivenOnly (x y : ℕ) : Type 0 where
    pub is_open : Open w h C x y
    pub not_assured : ¬ Assured w h C dx dy x y
    pub drive : HasDrive w h C x y dx dy

  -- "those with none", of the open crossings.
  pub record Stranded (x y : ℕ) : Type 0 where
    pub is_open : Open w h C x y
    pub no_drive : ¬ HasDrive w h C x y dx dy

  -- "open crossings; those for which the depot is assured; those not assured that have a shortest
  -- drive; those with none": "each is the size of the set that document 01 defines". A crossing for
  -- which the depot is assured is open by that definition.
  pub record Sizes (p : Placing) : Type 0 where
    pub open_count : Count w h (Open w h C) p.opens
    pub assured_count : Count w h (Assured w h C dx dy) p.assured
    pub driven_count : Count w h DrivenOnly p.driven
    pub stranded_count : Count w h Stranded p.stranded

  -- "If the depot is closed, all four are 0; otherwise each is the size of the set that document 01
  -- defines."
  pub data HowPlaced (p : Placing) : Type 0 where
    depot_closed : C dx dy → p ≡ all_zero → HowPlaced p
    depot_open : Open w h C dx dy → Sizes p → HowPlaced p
