-- `judge` meets its contract: it tests in the order of the faults, which is that of the rows.
use Rattle.std.proofs.Common.{◌≡◌, refl, ap, inl, inr, ℕ, ◌*◌, ◌<◌, ◌≤◌, List, arith}
use Rattle.std.proofs.Math.Decide.{ℕ_discrete}
use Rattle.std.proofs.lemmas.Result.{err_from_is_err_and}
use Rattle.field.specs.Map.{Sides, old_largest}
use Rattle.field.specs.Limits.{crossings_few, largest_is, old_largest_is}
use Rattle.field.specs.declared.Size.{Size}
use Rattle.sheets.specs.Promise.{Of}
use Rattle.mapfile.specs.HeaderWorking.{pick_yes, pick_no}
use Rattle.picturefile.specs.declared.Depth.{Depth}
use Rattle.picturefile.specs.declared.Depth.TheVariants.{OneByte, TwoBytes}
use Rattle.picturefile.specs.Depths.{largest_of, bytes_of}
use Rattle.picturefile.specs.Picture.{Begins, no_sides, other_largest, other_sheet, ends_early, goes_on}
use Rattle.picturing.specs.Parts.{Known, depth_of}
use Rattle.picturing.proofs.judge.Goals as goal

sides : {w h : ℕ} (m : Size) → Of w h m → Sides w h
sides m o = rw (← o.width, ← o.height) m.within

-- So the first row does not apply.
sized : {w h : ℕ} (m : Size) → Of w h m → ¬ ¬ Sides w h
sized m o f = f (sides m o)

begins : {file body : List ℕ} {w h largest : ℕ} (d : Depth) → largest ≡ largest_of d → Begins file w h largest body → Begins file w h (largest_of d) body
begins d e b = rw e at b

-- A kind's largest value is known, and its kind is told.
known : {largest : ℕ} (d : Depth) → largest ≡ largest_of d → ¬ ¬ Known largest
known d e f = f (record { depth = d; is = e })

kind : {largest : ℕ} (d : Depth) → largest ≡ largest_of d → depth_of largest ≡ d
unfolding depth_of
kind {largest} OneByte e = pick_yes (ℕ_discrete largest old_largest) _ _ e
kind {largest} TwoBytes e = pick_no (ℕ_discrete largest old_largest) _ _ (λ f. omega (arith, largest_is, old_largest_is))

-- So a raster's length fits.
bytes_few : (d : Depth) (n : ℕ) → n * bytes_of d ≤ n * 2
bytes_few OneByte n = omega arith
bytes_few TwoBytes n = omega arith

pub returns-in_default : goal.returns-in_default
returns-in_default c = record { judged = λ file body b e. no_sides _ _ _ body b c.in_default.ensures refl; given = inl (c.in_default.ensures, refl) }

pub overflow_mul-crossings : goal.overflow_mul-crossings
overflow_mul-crossings c = omega (arith, crossings_few (sides c.in-Some.map c.in-Some.ensures))

pub returns-in_err-depth : goal.returns-in_err-depth
returns-in_err-depth c =
    let p = err_from_is_err_and c.from_residual.result c.from_residual.ensures.1 in
    rw (p.1, p.2, c.in_err-depth.ensures.0)
    (record {
      judged = λ file body b e. other_largest _ _ _ body b (sides c.in-Some.map c.in-Some.ensures) c.in_err-depth.ensures.1 refl;
      given = inr (sized c.in-Some.map c.in-Some.ensures, inl (λ k. c.in_err-depth.ensures.1 k.depth k.is, refl));
    })

pub returns-then-lent-crossings : goal.returns-then-lent-crossings
returns-then-lent-crossings c =
    let d = c.in_ok-depth.depth in
    record {
      judged = λ file body b e.
          other_sheet d _ _ body (begins _ c.in_ok-depth.ensures b) (sides c.in-Some.map c.in-Some.ensures) c.if-lent-crossings.true refl;
      given = inr (sized c.in-Some.map c.in-Some.ensures, inr (known d c.in_ok-depth.ensures, inl (c.if-lent-crossings.true, refl)));
    }

pub overflow_mul-whole : goal.overflow_mul-whole
overflow_mul-whole c =
    rw c.bytes.ensures
    (record { fits = omega (arith, crossings_few (sides c.in-Some.map c.in-Some.ensures), bytes_few c.in_ok-depth.depth (c.args.h * c.args.w)) })

pub returns-then-left-whole : goal.returns-then-left-whole
returns-then-left-whole c =
    let d = c.in_ok-depth.depth in
    let short = rw c.bytes.ensures at c.if-left-whole.true in
    record {
      judged = λ file body b e.
          ends_early d _ _ body (begins _ c.in_ok-depth.ensures b) (sides c.in-Some.map c.in-Some.ensures) (omega arith) (rw e short) refl;
      given = rw (kind d c.in_ok-depth.ensures)
          (inr (sized c.in-Some.map c.in-Some.ensures, inr (known d c.in_ok-depth.ensures, inr (λ f. f (omega arith), inl (short, refl)))));
    }

pub returns-then-whole-left : goal.returns-then-whole-left
returns-then-whole-left c =
    let d = c.in_ok-depth.depth in
    let long = rw c.bytes.ensures at c.if-whole-left.true in
    record {
      judged = λ file body b e.
          goes_on d _ _ body (begins _ c.in_ok-depth.ensures b) (sides c.in-Some.map c.in-Some.ensures) (omega arith) (rw e long) refl;
      given = rw (kind d c.in_ok-depth.ensures)
          (inr (sized c.in-Some.map c.in-Some.ensures, inr (known d c.in_ok-depth.ensures, inr (λ f. f (omega arith), inr (λ l. omega (arith, l, long), inl (long, refl))))));
    }

pub returns : goal.returns
returns c =
    let d = c.in_ok-depth.depth in
    let same = ap (λ (b : ℕ). c.args.h * c.args.w * b) c.bytes.ensures in
    record {
      judged = record { of = c.in-Some.ensures; kind = c.in_ok-depth.ensures; size = omega arith; whole = omega (arith, same) };
      given = rw (kind d c.in_ok-depth.ensures)
          (inr (sized c.in-Some.map c.in-Some.ensures, inr (known d c.in_ok-depth.ensures, inr (λ f. f (omega arith), inr (λ l. omega (arith, same, l), inr (λ l. omega (arith, same, l), refl))))));
    }
