-- `read` meets its promise: letters, header, and what the header's numbers tell, in that order;
-- then the raster is read onto the sheet.
use Rattle.std.proofs.Common.{◌≡◌, refl, sym, ap, ℕ, List, [], ◌∷◌, length, drop, get_or}
use Rattle.std.proofs.lemmas.Result.{err_from_is_err_and}
use Rattle.header.specs.Letters.{SameTwo, two_first}
use Rattle.header.specs.HeaderParts.{HeadFound}
use Rattle.picturefile.specs.Picture.{picture_letters, Begins, PictureFault, no_header}
use Rattle.picturefile.proofs.PictureLaws.{fault_some}
use Rattle.picturefile.proofs.WorkingLaws.{three_values}
use Rattle.calls.specs.PictureCalls.{not_read, ReadSheetCall}
use Rattle.picturing.specs.Parts.{Sound}
use Rattle.picturing.proofs.Lending.{rest_is}
use Rattle.picturing.proofs.read.Goals as goal

-- A refusal leaves the sheet.
refusing : {file sheet : List ℕ} {n : ℕ} → PictureFault file (length sheet) n → ReadSheetCall file sheet sheet (not_read n)
refusing f = record { given = λ z. f; kept = λ z. refl; refused = λ z. refl; done = λ z. absurd (fault_some f z) }

-- The header that is found.
begins : {file numbers : List ℕ} {at : ℕ} → SameTwo file picture_letters → length numbers ≡ 3 → HeadFound file 2 numbers at
    → Begins file (get_or numbers 0 0) (get_or numbers 1 0) (get_or numbers 2 0) (drop at file)
begins {file} {numbers} {at} t size f =
    record { after = drop 2 file; letters = two_first file 80 53 t; header = rw (three_values numbers size) at f.header }

pub returns-in_default : goal.returns-in_default
returns-in_default c =
    let t : SameTwo c.args.src.now picture_letters = c.begins.ensures.0 c.if-not-begins.false in
    refusing (no_header (drop 2 c.args.src.now) (two_first c.args.src.now 80 53 t) (λ w h m body. c.in_default.ensures (w ∷ h ∷ m ∷ []) body (sym c.header.auto.numbers)) refl)

pub returns-in_err-map : goal.returns-in_err-map
returns-in_err-map c =
    let t : SameTwo c.args.src.now picture_letters = c.begins.ensures.0 c.if-not-begins.false in
    let p = err_from_is_err_and c.from_residual.result c.from_residual.ensures.1 in
    rw (p.1, p.2) (refusing (c.in_err-map.ensures.judged c.args.src.now _ (begins t c.header.auto.numbers c.in-Some.ensures) (sym (ap length (rest_is c.args.src.now c.in-Some.at)))))

pub returns : goal.returns
returns c =
    let t : SameTwo c.args.src.now picture_letters = c.begins.ensures.0 c.if-not-begins.false in
    let s : Sound _ _ _ _ _ c.in_ok-map.map c.in_ok-map.depth = c.in_ok-map.ensures.judged in
    let at = c.in-Some.at in
    record {
      given = λ y. absurd (y refl);
      kept = λ y. absurd (y refl);
      refused = λ y. absurd (y refl);
      done = λ y.
          record {
            picture = record {
              depth = c.in_ok-map.depth;
              body = drop at c.args.src.now;
              begins = rw (s.of.width, s.of.height, ← s.kind) (begins t c.header.auto.numbers c.in-Some.ensures);
              sides = c.in_ok-map.map.within;
              drawn = rw (rest_is c.args.src.now at) at c.read_rows.ensures;
            };
            size = rw (s.of.width, s.of.height) s.size;
          };
    }
