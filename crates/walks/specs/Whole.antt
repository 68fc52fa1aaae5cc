-- Lending any type. What a `&` holds is each type's own formula, so the laws of lending that
-- `Lending` has ask something of it. Here a `&` holds shares of the whole value as it lies in memory,
-- whatever the type: then they ask nothing, and hold of every type.
use Rattle.std.specs.Prelude.{refl, List, [], ◌∷◌, ℕ, length}
use seplogic.Ra.Ura.{Ura}
use base.Fraction.{full_share}
use mir.Val.{Val}
use base.Fml.{Lft, GName, Share, flft, flent}
use types.Logic.{Logic}
use types.Kit.{Item, ‵, Goal, Soaks, Seq, Step}
use types.Share.{arr_parts}
use Rattle.std.specs.Borrow.{RattleType}
use denote.RattleType.{RowLaws}
use denote.Sharing.{one}
use denote.Memory.{part_at, shares}
use denote.Shares.{Shares, shares_Whole}
use denote.Param.Shared.{Whole-row_laws}
use denote.Index.{row}
use Rattle.walks.specs.Lending.{shr_own, mut_own, SliceIs, shown, shows_row, shows_on, doubles}

-- The type R, of which a `&` holds shares of the whole value.
abbrev pub in_whole : RattleType → RattleType
in_whole R =
    record {
      Denot = R.Denot;
      mir = R.mir;
      written = R.written;
      reaches = R.reaches;
      lives = R.lives;
      own_val = R.own_val;
      exit = R.exit;
      coded = R.coded;
      shr_at = λ x b o. one (λ q. part_at R q x b o);
    }

-- What is asked of it holds of every R.
pub whole_shows : {M : Type 1} {𝓤 : Ura M} (𝓛 : Logic 𝓤) (R : RattleType) (ν : ℕ) → Shares 𝓛 (in_whole R) (ν ∷ [])
whole_shows 𝓛 R ν = shares_Whole 𝓛 full_share (in_whole R) (λ x b o. refl) (ν ∷ [])

pub whole_laws : (R : RattleType) → RowLaws (in_whole R)
whole_laws R = Whole-row_laws (in_whole R) (λ x b o. refl)

module _ {M : Type 1} {𝓤 : Ura M} {𝓛 : Logic 𝓤} {K : Type 0} {Γ : List (Item 𝓤)} {G : Goal 𝓤 𝓛.H} where
  -- A row of any type is lent as `&`.
  pub shows_any_row : K → Soaks G → (R : RattleType) (b o : ℕ) (ys : List R.Denot) (vs : List Val) → SliceIs R b o ys vs
      → ((ν : ℕ) → Seq K 𝓛 (‵ (flft (ν ∷ []) full_share) ∷ ‵ (shr_own (ν ∷ []) (in_whole R) b o ys vs) ∷ ‵ (flent (ν ∷ []) ((arr_parts (shares R) (length ys)).part full_share ys b o)) ∷ Γ) G)
      → Seq K 𝓛 (‵ (row R full_share ys b o) ∷ Γ) G
  shows_any_row t z R b o ys vs known k = shows_row t z (in_whole R) (whole_shows 𝓛 R) b o ys vs known k

  -- A slice of any type that is itself lent as `&mut` is lent on as `&`.
  pub shows_any_on : K → Soaks G → {κ : Lft} {q : Share} (R : RattleType) (b o : ℕ) {γ : GName} (ys : List R.Denot) (vs : List Val)
      → (SliceIs R b o ys vs → (ν : ℕ) → Seq K 𝓛 (‵ (flft (ν ∷ []) full_share) ∷ ‵ (shr_own (ν ∷ []) (in_whole R) b o ys vs) ∷ shown 𝓤 κ q R b o γ ys ν ∷ Γ) G)
      → Seq K 𝓛 (‵ (mut_own κ R b o γ ys vs) ∷ ‵ (flft κ q) ∷ Γ) G
  shows_any_on t z R b o ys vs k = shows_on t z (in_whole R) (whole_shows 𝓛 R) b o ys vs k

  -- What is had of any type as `&` is had twice.
  pub any_doubles : K → (κ : Lft) (R : RattleType) (b o : ℕ) (ys : List R.Denot) (vs : List Val)
      → Step K 𝓛 (‵ (shr_own κ (in_whole R) b o ys vs) ∷ ‵ (shr_own κ (in_whole R) b o ys vs) ∷ Γ) G (‵ (shr_own κ (in_whole R) b o ys vs) ∷ Γ) G
  any_doubles t κ R b o ys vs = doubles t κ (in_whole R) (whole_laws R) b o ys vs
