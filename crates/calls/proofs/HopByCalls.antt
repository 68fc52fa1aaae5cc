-- What is proved of the hop by a morning sheet: the refusals exactly, one outcome, no slot read
-- past the count; and 20 exactly where one of the conditions of a sheet taken fails.
use Rattle.std.specs.Prelude.{◌≡◌, refl, List, [], ◌∷◌, ◌↔◌, ◌⊎◌, ℕ, ◌*◌, length}
use Rattle.std.proofs.Common.{sym, ◌∙◌, inl, inr, arith}
use Rattle.std.proofs.Math.Decide.{ℕ_discrete}
use Rattle.field.specs.declared.Marker.{Marker}
use Rattle.field.specs.Refusals.{sheet_not_taken}
use Rattle.field.specs.Morning.{LabelBytes, RocksShown, NoneBetween}
use Rattle.field.specs.Workings.Tests.{test_dec}
use Rattle.field.specs.Workings.Stamping.{rock_of}
use Rattle.field.proofs.Workings.Stamping.{rock_of_lem, of_rock}
use Rattle.field.proofs.Workings.MorningLaws.{taken_dec, not_taken, shown_draws}
use Rattle.field.proofs.Workings.AssuredLaws.{assured_dec}
use Rattle.calls.specs.Rules.{gives_one, LentMap, OnIt, markers_in, RocksOf, Misfit}
use Rattle.calls.specs.RuleLaws.{None, Exactly, exactly_listed, gives_none, none_gives, sheets_fit, holds, sides_hold, formed_holds}
use Rattle.calls.specs.Answers.{no_hop}
use Rattle.calls.specs.OutcomeLaws.{refused_one, hops_named_one}
use Rattle.calls.specs.Agree.{Agree, with_list, asked_moved}
use Rattle.calls.specs.HopByCall.{TakenOn, ShownOn, hop_by_table, HopByCall}
use Rattle.calls.specs.declared.Homeward.{Homeward}
use Rattle.calls.specs.HopByCalls.{AskedBy, AssuredBy}

module _ {m : LentMap} {hx hy x y : ℕ} {sheet : List ℕ} where
  -- Each refusal is given exactly on its occasion: 1, 2, 3, 4, 20, 8 and 11, and no other; 20 comes
  -- after 4 and before 8.
  pub hop_by_exactly : {r : Homeward} → HopByCall m hx hy x y sheet r → Exactly (hop_by_table m hx hy x y sheet) r.refusal
  hop_by_exactly c = exactly_listed (hop_by_table m hx hy x y sheet) _ (omega arith) c.given

  -- One outcome.
  pub hop_by_one : {r s : Homeward} → HopByCall m hx hy x y sheet r → HopByCall m hx hy x y sheet s → r ≡ s
  hop_by_one {r} {s} p q = go (ℕ_discrete r.refusal 0)
    where
      e : r.refusal ≡ s.refusal
      e = gives_one (hop_by_table m hx hy x y sheet) _ _ p.given q.given

      go : Dec (r.refusal ≡ 0) → r ≡ s
      go (yes z) = hops_named_one (p.done z) (q.done (sym e ∙ z))
      go (no z) = refused_one no_hop e (p.refused z) (q.refused (λ k. z (e ∙ k)))

-- "Slots past the count are never read".
pub hop_by_unread : {m : LentMap} {other : List Marker} {hx hy x y : ℕ} {sheet : List ℕ} {r : Homeward} → Agree m.list other m.count
    → HopByCall m hx hy x y sheet r → HopByCall (with_list m other) hx hy x y sheet r
hop_by_unread {m} a c = record { given = asked_moved m a c.given (λ e g. rw e at g); refused = c.refused; done = c.done }

-- It can be told of a crossing whether it is a rock for the cart, and whether a sheet of the map's
-- size is taken.
rock_told : (m : LentMap) (x y : ℕ) → Dec (RocksOf m x y)
rock_told m x y =
    test_dec (rock_of m.clearance (markers_in m) x y) (of_rock m.clearance (markers_in m) x y, rock_of_lem m.clearance (markers_in m) x y)

pub taken_told : (m : LentMap) (sheet : List ℕ) → length sheet ≡ m.height * m.width → Dec (TakenOn m sheet)
taken_told m sheet = taken_dec (RocksOf m) m.width m.height sheet (rock_told m)

module _ {m : LentMap} {hx hy x y : ℕ} {sheet : List ℕ} (k : AskedBy m hx hy x y sheet) where
  pub asked_fits : ¬ Misfit m.width m.height (sheet ∷ [])
  asked_fits = sheets_fit m.width m.height sheet [] k.fits (λ n. n)

  pub asked_places : ¬ ((¬ OnIt m hx hy) ⊎ (¬ OnIt m x y))
  asked_places (inl n) = n k.home
  asked_places (inr n) = n k.place

  -- "20, sheet not taken, exactly when one of those conditions fails".
  pub hop_by_twenty : {r : Homeward} → HopByCall m hx hy x y sheet r
      → (r.refusal ≡ sheet_not_taken)
      ↔ ((¬ LabelBytes sheet) ⊎ ((¬ RocksShown (RocksOf m) m.width m.height sheet) ⊎ (¬ NoneBetween m.width m.height sheet)))
  hop_by_twenty c =
      let row = (hop_by_exactly c).1.1.1.1.0 in
      let why = not_taken (RocksOf m) m.width m.height sheet (rock_told m) in (
        λ e. why.0 (row.0 e).0,
        λ f. row.1 (why.1 f, ((((tt, λ n. n k.sides), asked_fits), λ n. n k.formed), asked_places)),
      )

-- A cart knows so from a hop that was not refused; and then no hop is.
pub hop_by_knows : {m : LentMap} {hx hy x y : ℕ} {sheet : List ℕ} {r : Homeward} → HopByCall m hx hy x y sheet r → r.refusal ≡ 0 → AssuredBy m hx hy x y sheet
hop_by_knows {m} {hx} {hy} {x} {y} {sheet} {r} c z =
    record {
      sides = sides_hold t.0;
      fits = fits;
      formed = formed_holds t.1.1.0;
      taken = taken;
      assured = holds (assured_dec m.width m.height (ShownOn m sheet) sheet (shown_draws m.width m.height sheet taken.bytes) hx hy x y) t.1.1.1.1.1.1.0;
    }
  where
    t : None (hop_by_table m hx hy x y sheet)
    t = gives_none (hop_by_table m hx hy x y sheet) 0 r.refusal (omega arith) c.given z

    fits : length sheet ≡ m.height * m.width
    fits = holds (ℕ_discrete _ _) (λ n. t.1.0 (inl n))

    taken : TakenOn m sheet
    taken = holds (taken_told m sheet fits) t.1.1.1.1.0

pub hop_by_passes : {m : LentMap} {hx hy x y : ℕ} {sheet : List ℕ} {r : Homeward} → HopByCall m hx hy x y sheet r → AssuredBy m hx hy x y sheet → r.refusal ≡ 0
hop_by_passes {m} {hx} {hy} {x} {y} {sheet} c k =
    gives_one (hop_by_table m hx hy x y sheet) _ _ c.given
    (none_gives (hop_by_table m hx hy x y sheet) 0 refl
    (λ n. n k.sides, (asked_fits asked, (λ n. n k.formed, (asked_places asked, (λ n. n k.taken, (ends, (λ n. n k.assured, tt))))))))
  where
    asked : AskedBy m hx hy x y sheet
    asked = record { sides = k.sides; fits = k.fits; formed = k.formed; home = k.assured.home.on; place = k.assured.place.on }

    ends : ¬ (ShownOn m sheet hx hy ⊎ ShownOn m sheet x y)
    ends (inl n) = k.assured.home.free n
    ends (inr n) = k.assured.place.free n
