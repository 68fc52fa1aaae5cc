-- The two parts of an asking joined. The first part has judged and stamped; the rocks stamped on
-- the sheet are the list's, so whatever the second part tells of the sheet's rocks holds of the
-- list's, and its rows come after those that the first part judged.
use Rattle.std.proofs.Common.{◌≡◌, refl, sym, Bool, true, false, true≢false, List, [], ◌∷◌, ◌++◌, ◌↔◌, ◌⊎◌, inl, inr, ⊎_elim, ℕ, ◌*◌, ◌<◌, length, arith}
use Rattle.std.proofs.Math.Decide.{ℕ_discrete}
use Rattle.std.specs.Prelude.{Result, Ok, Err}
use Rattle.std.specs.Result.{IsErr, IsErrAnd}
use Rattle.std.proofs.lemmas.Result.{err_from_is_err_and}
use Rattle.field.specs.declared.Size.{Size}
use Rattle.field.specs.declared.refusals.Refusal.{Refusal}
use Rattle.field.specs.Map.{Sides}
use Rattle.field.specs.Refusals.{no_slot, number_of, told}
use Rattle.field.specs.Labels.{RockOn, LabelSheet}
use Rattle.field.proofs.Workings.SameLaws.{Alike, closed_same, label_sheet_same}
use Rattle.labels.specs.Promise.{Stamped, Stones}
use Rattle.calls.specs.Rules
use Rattle.calls.specs.Rules.{LentMap, Sized, OnIt, RocksOf, ClosedBy, Rule, Gives, Misfit}
use Rattle.calls.specs.RuleLaws.{None, Above, gives_none, gives_above, Reworded, gives_reworded, same, gives_early, gives_later, sides_hold, on_holds}
use Rattle.calls.specs.AfterLaws.{labels_kept, labels_made}
use Rattle.calls.specs.Answers.{Early, LabelsAfter}
use Rattle.askings.specs.Promise.{ClosedOn}
use Rattle.judging.specs.Judging.{OneFit, FourFit}
use Rattle.layer.specs.Prepared.{Prepared, asking_found}
pub use Rattle.layer.specs.Told.{some_number}

-- `others` tells of the other sheets, on a map within the limit.
abbrev pub Tells : ℕ → ℕ → Bool → List (List ℕ) → Type 0
Tells w h others sheets = Sides w h → ((others ≡ false) ↔ Misfit w h sheets)

-- All the sheets are of the map's size, or one is not.
abbrev AllFit : ℕ → ℕ → List (List ℕ) → Type 0
AllFit w h [] = Unit {0}
AllFit w h (s ∷ ss) = (length s ≡ h * w) × AllFit w h ss

fit_or_not : (w h : ℕ) (ss : List (List ℕ)) → AllFit w h ss ⊎ Misfit w h ss
fit_or_not w h [] = inl tt
fit_or_not w h (s ∷ ss) = go (ℕ_discrete (length s) (h * w)) (fit_or_not w h ss)
  where
    go : Dec (length s ≡ h * w) → AllFit w h ss ⊎ Misfit w h ss → AllFit w h (s ∷ ss) ⊎ Misfit w h (s ∷ ss)
    go (yes e) (inl f) = inl (e, f)
    go (yes e) (inr m) = inr (inr m)
    go (no n) f = inr (inl n)

not_both : (w h : ℕ) (ss : List (List ℕ)) → AllFit w h ss → Misfit w h ss → ⊥
not_both w h [] f m = m
not_both w h (s ∷ ss) f (inl n) = n f.0
not_both w h (s ∷ ss) f (inr m) = not_both w h ss f.1 m

all_tell : (w h : ℕ) (others : Bool) (ss : List (List ℕ)) → ((others ≡ true) ↔ (Sides w h × AllFit w h ss)) → Tells w h others ss
all_tell w h true ss e sides = (λ z. absurd (true≢false z), λ m. absurd (not_both w h ss (e.0 refl).1 m))
all_tell w h false ss e sides = (λ _. ⊎_elim (λ f. absurd (true≢false (sym (e.1 (sides, f))))) (λ m. m) (fit_or_not w h ss), λ _. refl)

-- No other sheet; one; four.
pub none_tell : {w h : ℕ} → Tells w h true []
none_tell sides = (λ z. absurd (true≢false z), λ m. absurd m)

pub one_tells : {w h : ℕ} {others : Bool} (s : List ℕ) → ((others ≡ true) ↔ OneFit w h (length s)) → Tells w h others (s ∷ [])
one_tells {w} {h} {others} s e =
    all_tell w h others (s ∷ []) (λ z. let f = e.0 z in (f.sides, (f.size, tt)), λ f. e.1 (record { sides = f.0; size = f.1.0 }))

pub four_tell : {w h : ℕ} {others : Bool} (s t u v : List ℕ) → ((others ≡ true) ↔ FourFit w h (length s) (length t) (length u) (length v)) → Tells w h others (s ∷ t ∷ u ∷ v ∷ [])
four_tell {w} {h} {others} s t u v e =
    all_tell w h others (s ∷ t ∷ u ∷ v ∷ []) (
      λ z. let f = e.0 z in (f.sides, (f.first, (f.second, (f.third, (f.fourth, tt))))),
      λ f. e.1 (record { sides = f.0; first = f.1.0; second = f.1.1.0; third = f.1.1.1.0; fourth = f.1.1.1.1.0 }),
    )

-- A refusal e handed on, by `?` or by the second part.
abbrev pub Handed : {A : Type 0} → Refusal → Result A Refusal → Type 0
Handed e r = IsErr r × IsErrAnd r (λ d. d ≡ e)

-- What an asking gives by its rows, and what it leaves on the label sheet.
pub record Answered (m : LentMap) (rows : List Rule) (labels labels' : List ℕ) (n : ℕ) : Type 0 where
  pub given : Gives rows n
  pub labels_after : LabelsAfter (RocksOf m) m.width m.height n labels labels'

-- The rows of a call: the first three and `own`, which say what the first part judges.
first_gives : (m : LentMap) (x y a b : ℕ) (others : Bool) (labels : List ℕ) (sheets : List (List ℕ)) (own : List Rule) → Tells m.width m.height others sheets → (Sized m → Reworded (Rules.places_rule m x y a b ∷ []) own)
    → (n : ℕ) → Gives (asking_found m x y a b others labels) n → Gives (Rules.asking_table m (labels ∷ sheets) own) n
first_gives m x y a b others labels sheets own tells places n =
    gives_reworded (asking_found m x y a b others labels) (Rules.asking_table m (labels ∷ sheets) own) n (
      refl,
      same,
      λ f. let sides = sides_hold f in
          (refl, (⊎_elim inl (λ e. inr ((tells sides).0 e)), ⊎_elim inl (λ e. inr ((tells sides).1 e))), λ _. (refl, same, λ _. places sides)),
    )

module _ {m : LentMap} {x y a b : ℕ} {others : Bool} {labels s : List ℕ} where
  -- The first part refuses by 1 to 4.
  early : {e : Refusal} → Prepared m false x y a b others labels s (Err e) → Early (number_of e)
  early {e} p = go p.given
    where
      go : Gives (asking_found m x y a b others labels) (number_of e) → Early (number_of e)
      go (inl k) = (omega (arith, k.1), omega (arith, k.1))
      go (inr (_, inl k)) = (omega (arith, k.1), omega (arith, k.1))
      go (inr (_, inr (_, inl k))) = (omega (arith, k.1), omega (arith, k.1))
      go (inr (_, inr (_, inr (_, inl k)))) = (omega (arith, k.1), omega (arith, k.1))
      go (inr (_, inr (_, inr (_, inr k)))) = absurd (some_number e k.1)

  pub early_told : {A : Type 0} {e : Refusal} (r : Result A Refusal) → Prepared m false x y a b others labels s (Err e) → Handed e r → Early (told r)
  early_told r p f = let q = err_from_is_err_and r f.1 in rw (q.1, q.2) (early p)

  -- The first part refuses, and nothing was written.
  pub refused : (sheets : List (List ℕ)) (own later : List Rule) → Tells m.width m.height others sheets → (Sized m → Reworded (Rules.places_rule m x y a b ∷ []) own)
      → {A : Type 0} {e : Refusal} (r : Result A Refusal) → Prepared m false x y a b others labels s (Err e) → Handed e r
      → Answered m (Rules.asking_table m (labels ∷ sheets) (own ++ later)) labels s (told r)
  refused sheets own later tells places {e = e} r p f =
      let q = err_from_is_err_and r f.1 in
      rw (q.1, q.2, p.left)
      (record {
        given = gives_early (Rules.asking_table m (labels ∷ sheets) own) later (number_of e) (first_gives m x y a b others labels sheets own tells places (number_of e) p.given) (some_number e);
        labels_after = labels_kept (early p);
      })

  module _ {map : Size} (p : Prepared m false x y a b others labels s (Ok map)) where
    free : None (asking_found m x y a b others labels)
    free = gives_none (asking_found m x y a b others labels) 0 0 (omega arith) p.given refl

    pub first_good : OnIt m x y
    first_good = on_holds (λ f. free.1.1.1.0 (inl f))

    pub second_good : OnIt m a b
    second_good = on_holds (λ f. free.1.1.1.0 (inr f))

    pub others_good : ¬ (others ≡ false)
    others_good e = free.1.0 (inr e)

    -- What is said of the size that the first part hands on is said of the map lent, and back.
    pub on_lent : (P : ℕ → ℕ → Type 0) → P map.w map.h → P m.width m.height
    on_lent P k = rw (p.left.size.width, p.left.size.height) at k

    pub on_map : (P : ℕ → ℕ → Type 0) → P m.width m.height → P map.w map.h
    on_map P k = rw (← p.left.size.width, ← p.left.size.height) at k

    pub sheet_stamped : Stamped m.width m.height s
    sheet_stamped = record { sides = sides_hold free.0; size = p.left.stamped.size; ones = p.left.stamped.ones }

    pub label_may : Stamped map.w map.h s
    label_may = on_map (λ w h. Stamped w h s) sheet_stamped

    -- The rocks stamped are the list's.
    pub stones_alike : Alike (RockOn (Stones m.width m.height s) m.width m.height) (RockOn (RocksOf m) m.width m.height)
    stones_alike u v =
        (λ r. p.left.stamped.rocks.sound u v r.stone, λ r. record { on = r.on; stone = p.left.stamped.rocks.complete u v r })

    pub closed_alike : Alike (ClosedOn m.width m.height s) (ClosedBy m)
    closed_alike = closed_same m.width m.height stones_alike

    -- The second part has labelled, and gives by its rows over the stones what the call gives by
    -- `later`.
    pub joined : (sheets : List (List ℕ)) (own : List Rule) → Above 0 own → Tells m.width m.height others sheets
        → (Sized m → Reworded (Rules.places_rule m x y a b ∷ []) own)
        → (rows later : List Rule) → Above no_slot rows → Reworded rows later → {n : ℕ} → Gives rows n → {t : List ℕ} → LabelSheet (Stones m.width m.height s) m.width m.height t
        → Answered m (Rules.asking_table m (labels ∷ sheets) (own ++ later)) labels t n
    joined sheets own some tells places rows later up reworded {n} g l =
        record {
          given = gives_later (Rules.asking_table m (labels ∷ sheets) own) later n
              (gives_none (Rules.asking_table m (labels ∷ sheets) own) 0 0 (omega arith, (omega arith, (omega arith, some))) (first_gives m x y a b others labels sheets own tells places 0 p.given) refl)
              (gives_reworded rows later n reworded g);
          labels_after = labels_made (late (gives_above rows no_slot n up g)) (label_sheet_same m.width m.height stones_alike l);
        }
      where
        late : (n ≡ 0) ⊎ (no_slot < n) → ¬ Early n
        late (inl e) k = omega (arith, k.0)
        late (inr e) k = omega (arith, k.1)

-- The same of a call that asks for two places, whose row stands as it is.
two_places : {r : Rule} → Reworded (r ∷ []) (r ∷ [])
two_places = (refl, same, λ _. tt)

module _ {m : LentMap} {x y a b : ℕ} {others : Bool} {labels s : List ℕ} (sheets : List (List ℕ)) (tells : Tells m.width m.height others sheets) where
  pub two_refused : (later : List Rule) → {A : Type 0} {e : Refusal} (r : Result A Refusal) → Prepared m false x y a b others labels s (Err e) → Handed e r
      → Answered m (Rules.asking_table m (labels ∷ sheets) (Rules.places_rule m x y a b ∷ later)) labels s (told r)
  two_refused later = refused sheets (Rules.places_rule m x y a b ∷ []) later tells (λ _. two_places)

  pub two_joined : {map : Size} (p : Prepared m false x y a b others labels s (Ok map)) → (rows later : List Rule) → Above no_slot rows → Reworded rows later
      → {n : ℕ} → Gives rows n → {t : List ℕ} → LabelSheet (Stones m.width m.height s) m.width m.height t
      → Answered m (Rules.asking_table m (labels ∷ sheets) (Rules.places_rule m x y a b ∷ later)) labels t n
  two_joined p = joined p sheets (Rules.places_rule m x y a b ∷ []) (omega arith) tells (λ _. two_places)
