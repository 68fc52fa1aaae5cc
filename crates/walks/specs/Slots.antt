-- One slot of a lent list of markers, in a walk: it is read, or another marker is put in it. The
-- list is a slice, so slot i lies a marker's size further on for each slot before it. The rules
-- take the step that reads or stores, which sees the slot's cell at the head of the context.
use Rattle.std.specs.Prelude.{refl, List, [], ◌∷◌, ℕ, ◌+◌, ◌*◌, ◌<◌, ◌≤◌, ◌^◌, T, length, get_or, set}
use Rattle.std.proofs.Common.{sym, arith, lit<}
use seplogic.Ra.Ura.{Ura}
use base.Fraction.{full_share}
use mir.Syntax.{erased}
use mir.Val.{Val, has_ty, WT}
use base.Fml.{Lft, Share, Fml, flft, fhide}
use types.Logic.{Logic}
use types.Kit.{Item, ‵, ◌⊛◌, Goal, Soaks, Seq, Step, step, ◌$◌, move, drop, split, fsplit, join, rewrite}
use denote.Laws.{Is, shows}
use denote.RattleType.{RowLaws}
use denote.Shares.{Shares}
use denote.Opens.{Shut}
use denote.Memory.{cell_at, shares}
use denote.Index.{row, place, place_is, others, elem_out, elem_back, elem_put, looks_slice, shuts_slice}
use denote.Slice.{ShrSlice, elements_shared}
use denote.Steps.{owned}
use denote.Struct.Laws as LL
use Rattle.walks.specs.Lending.{copies_show}
use Rattle.field.specs.declared.Marker.{Marker}
use Rattle.field.specs.Map.{tallest}
use Rattle.field.specs.Limits.{tallest_is}
use Rattle.field.specs.Labels.{blank}
use Rattle.field.specs.contracts.Marker as T
use Rattle.field.proofs.Marker.TheLaws as T'

-- A marker's size in bytes.
abbrev pub marker_size : ℕ
marker_size = 8

-- A marker as a machine value, and that what a slot or a local of its type holds is one.
abbrev pub mach : Marker → Val
mach m = LL.val T.the_type T'.the_laws m

abbrev pub IsMarker : Marker → Type 0
IsMarker m = Is T.the_row m (mach m ∷ [])

pub marker_typed : {M : Type 1} {𝓤 : Ura M} (𝓛 : Logic 𝓤) (m : Marker) → IsMarker m → T (has_ty T'.mir (mach m)) × WT (mach m)
marker_typed 𝓛 m is = ((LL.lawful T.the_type T'.the_laws 𝓛).typed m (mach m ∷ []) is).0

pub id_fits : (m : Marker) → IsMarker m → m.id < 2 ^ 16
id_fits m is = (LL.owed T.the_type T'.the_laws m (mach m ∷ []) is).0.1

pub height_fits : (m : Marker) → IsMarker m → m.height ≤ tallest
height_fits m is = omega (arith, tallest_is, (LL.owed T.the_type T'.the_laws m (mach m ∷ []) is).1.1.1.0.1)

pub blank_fits : IsMarker blank
blank_fits = LL.owes T.the_type T'.the_laws blank ((refl, lit< tt), ((refl, lit< tt), ((refl, lit< tt), ((refl, lit< tt), tt))))

-- A list of markers can be lent as `&`, and is then had twice.
pub markers_show : {M : Type 1} {𝓤 : Ura M} (𝓛 : Logic 𝓤) (ν : ℕ) → Shares 𝓛 T.the_row (ν ∷ [])
markers_show 𝓛 = copies_show 𝓛 T.the_row (LL.copied T.the_type T'.the_copy 𝓛)

pub markers_double : RowLaws T.the_row
markers_double m = T'.the_field_copy.shr_laws (T.the_type.to m)

abbrev slot : List Marker → ℕ → Marker
slot ys i = get_or ys i blank

-- The share q of slot i, holding m, of a list that begins at (b, o).
abbrev pub cell_of : Share → Marker → ℕ → ℕ → ℕ → Fml
cell_of q m b o i = cell_at q (T.the_row).mir (mach m ∷ []) b (i * marker_size + o)

-- The slots but i.
abbrev pub others_of : Share → List Marker → ℕ → ℕ → ℕ → Fml
others_of q ys b o i = others (shares T.the_row) q ys i b o

-- What a `&κ [Marker]` holds: what a `&` to each slot does, as much as a token of κ gives.
abbrev pub lent_list : Lft → List Marker → ℕ → ℕ → Fml
lent_list κ ys b o = fhide (elements_shared T.the_row ys b o κ)

-- What stands in place of the token while the list is looked into.
abbrev looked_at : {M : Type 1} {𝓤 : Ura M} (𝓛 : Logic 𝓤) → Lft → Share → Share → List Marker → ℕ → ℕ → Item 𝓤
looked_at 𝓛 κ q s ys b o = Shut 𝓛 κ q (row T.the_row s ys b o)

-- A list passed as `&` is looked into from then on.
pub looks_into : {M : Type 1} {𝓤 : Ura M} {𝓛 : Logic 𝓤} {K : Type 0} {Γ : List (Item 𝓤)} {G : Goal 𝓤 𝓛.H} → K → (κ : Lft)
    (b o : ℕ) (ys : List Marker) {vs : List Val}
    → Step K 𝓛 (‵ (lent_list κ ys b o) ∷ Γ) G (‵ ((ShrSlice erased κ T.the_row).own_val (record { ref_ptr = (b, o); now = ys }) vs) ∷ Γ) G
looks_into t κ b o ys = step (λ s. fsplit t $ drop t $ s)

module _ {M : Type 1} {𝓤 : Ura M} {𝓛 : Logic 𝓤} {K : Type 0} {Γ : List (Item 𝓤)} {G : Goal 𝓤 𝓛.H} {j : Item 𝓤} where
  -- Slot i of a row is seen; what else is kept goes with j, the entry after the row.
  seen : K → (q : Share) (ys : List Marker) (b o i : ℕ) → i < length ys
      → (IsMarker (slot ys i) → Seq K 𝓛 (‵ (cell_of q (slot ys i) b o i) ∷ (‵ (others_of q ys b o i) ⊛ j) ∷ Γ) G)
      → Seq K 𝓛 (‵ (row T.the_row q ys b o) ∷ j ∷ Γ) G
  seen t q ys b o i l k =
      elem_out t T.the_row (Is T.the_row) (shows 𝓛 T.the_row) (LL.vals T.the_type T'.the_laws) (LL.tells T.the_type T'.the_laws) q ys i blank b o l (λ g.
      move t (1 ∷ []) $ drop t $
      rewrite t 0 (λ (p : ℕ). ‵ (cell_at q (T.the_row).mir (mach (slot ys i) ∷ []) b p)) (place_is marker_size o i) refl $ move t (1 ∷ 2 ∷ []) $ join t $ move t (1 ∷ []) $ k g)

  owns_again : K → (q : Share) (ys : List Marker) (b o i : ℕ) (m : Marker) → IsMarker m
      → Step K 𝓛 (‵ (cell_at q (T.the_row).mir (mach m ∷ []) b (place marker_size o i)) ∷ ‵ ((T.the_row).own_val m (mach m ∷ [])) ∷ ‵ (others_of q ys b o i) ∷ j ∷ Γ) G
      (‵ (cell_of q m b o i) ∷ (‵ (others_of q ys b o i) ⊛ j) ∷ Γ) G
  owns_again t q ys b o i m is = step (λ s.
      rewrite t 0 (λ (p : ℕ). ‵ (cell_at q (T.the_row).mir (mach m ∷ []) b p)) (sym (place_is marker_size o i)) refl $ move t (1 ∷ []) $ split t $ move t (2 ∷ 0 ∷ 1 ∷ []) $
      owned t T.the_row (Is T.the_row) (LL.makes T.the_type T'.the_plain 𝓛) m (mach m ∷ []) is $ move t (1 ∷ 0 ∷ []) $ s)

  -- It is put back as it was, or with another marker.
  shut : K → (q : Share) (ys : List Marker) (b o i : ℕ) → i < length ys → IsMarker (slot ys i)
      → Step K 𝓛 (‵ (row T.the_row q ys b o) ∷ j ∷ Γ) G (‵ (cell_of q (slot ys i) b o i) ∷ (‵ (others_of q ys b o i) ⊛ j) ∷ Γ) G
  shut t q ys b o i l is = step (λ s. owns_again t q ys b o i (slot ys i) is $ elem_back t T.the_row q ys i blank (mach (slot ys i) ∷ []) b o l $ s)

  shut_with : K → (q : Share) (ys : List Marker) (b o i : ℕ) (m : Marker) → i < length ys → IsMarker m
      → Step K 𝓛 (‵ (row T.the_row q (set ys i m) b o) ∷ j ∷ Γ) G (‵ (cell_of q m b o i) ∷ (‵ (others_of q ys b o i) ⊛ j) ∷ Γ) G
  shut_with t q ys b o i m l is = step (λ s. owns_again t q ys b o i m is $ elem_put t T.the_row q ys i m (mach m ∷ []) b o l $ s)

module _ {M : Type 1} {𝓤 : Ura M} {𝓛 : Logic 𝓤} {K : Type 0} {Γ Γ' : List (Item 𝓤)} {G G' : Goal 𝓤 𝓛.H} where
  -- A step reads slot i of a list lent as `&`.
  pub reads_lent : K → Soaks G → Soaks G' → {κ : Lft} {q : Share} (ys : List Marker) (b o i : ℕ) → i < length ys
      → ((s : Share) → IsMarker (slot ys i) → Step K 𝓛
      (‵ (cell_of s (slot ys i) b o i) ∷ (‵ (others_of s ys b o i) ⊛ looked_at 𝓛 κ q s ys b o ⊛ ‵ (lent_list κ ys b o)) ∷ Γ') G'
      (‵ (cell_of s (slot ys i) b o i) ∷ (‵ (others_of s ys b o i) ⊛ looked_at 𝓛 κ q s ys b o ⊛ ‵ (lent_list κ ys b o)) ∷ Γ) G)
      → (IsMarker (slot ys i) → Seq K 𝓛 (‵ (lent_list κ ys b o) ∷ ‵ (flft κ q) ∷ Γ') G') → Seq K 𝓛 (‵ (lent_list κ ys b o) ∷ ‵ (flft κ q) ∷ Γ) G
  reads_lent t z z' ys b o i l k s =
      looks_slice t z T.the_row (LL.copied T.the_type T'.the_copy 𝓛) ys b o (λ r.
      move t (1 ∷ 2 ∷ []) $ join t $ move t (1 ∷ []) $ seen t r ys b o i l (λ g. k r g $ shut t r ys b o i l g $ move t (1 ∷ []) $ split t $ move t (2 ∷ 0 ∷ []) $
      shuts_slice t z' T.the_row r ys b o $ move t (1 ∷ 0 ∷ []) $ s g))

  -- A step reads slot i of a row, or stores m in it.
  pub reads_slot : K → (ys : List Marker) (b o i : ℕ) {j : Item 𝓤} → i < length ys
      → (IsMarker (slot ys i) → Step K 𝓛
      (‵ (cell_of full_share (slot ys i) b o i) ∷ (‵ (others_of full_share ys b o i) ⊛ j) ∷ Γ') G' (‵ (cell_of full_share (slot ys i) b o i) ∷ (‵ (others_of full_share ys b o i) ⊛ j) ∷ Γ) G)
      → (IsMarker (slot ys i) → Seq K 𝓛 (‵ (row T.the_row full_share ys b o) ∷ j ∷ Γ') G') → Seq K 𝓛 (‵ (row T.the_row full_share ys b o) ∷ j ∷ Γ) G
  reads_slot t ys b o i l k s = seen t full_share ys b o i l (λ g. k g $ shut t full_share ys b o i l g $ s g)

  pub puts_slot : K → (ys : List Marker) (b o i : ℕ) (m : Marker) {j : Item 𝓤} → i < length ys → IsMarker m
      → Step K 𝓛 (‵ (cell_of full_share m b o i) ∷ (‵ (others_of full_share ys b o i) ⊛ j) ∷ Γ') G' (‵ (cell_of full_share (slot ys i) b o i) ∷ (‵ (others_of full_share ys b o i) ⊛ j) ∷ Γ) G
      → Step K 𝓛 (‵ (row T.the_row full_share (set ys i m) b o) ∷ j ∷ Γ') G' (‵ (row T.the_row full_share ys b o) ∷ j ∷ Γ) G
  puts_slot t ys b o i m l is k = step (λ s. seen t full_share ys b o i l (λ g. k $ shut_with t full_share ys b o i m l is $ s))
