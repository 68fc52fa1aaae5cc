-- The drive by way of the meeting crossing. Both parts have a shortest drive, and together they are
-- no detour; the second is written from the place where the first ended, over the number of the
-- crossing where they meet, which so stands once.
use mathlib.Core.Path.{◌≡◌, sym, ap, ◌∙◌}
use mathlib.Core.List.{List, [], ◌∷◌, ◌++◌, append_assoc, append-nil}
use mathlib.Core.Logic.{inl, inr}
use Prim.Native.Nat.{ℕ, suc, ◌+◌, ◌-◌, ◌<◌, ◌≤◌}
use native.Mathlib.Omega.{arith}
use lib.ListN.{length, get_or, take, drop, length-take, length-drop}
use lib.Seq.{take_all, drop-length, take-suc, take-append-le, drop-append-le, take-append-add, drop-append-add, drop-drop, get_or-take, length-take-le}
use Rattle.field.specs.Map.{Sides, On, OnMap, number, dist}
use Rattle.field.specs.Labels.{Open}
use Rattle.field.specs.Drives.{ShortestDrive, HasDrive}
use Rattle.field.specs.Workings.Sheet.{Marked}
use Rattle.field.proofs.Workings.Marks.{marked_dec}
use Rattle.field.proofs.Workings.DriveLaws.{drive_head, drive_end}
use Rattle.field.proofs.Workings.ChooserLaws.{driven_shortest}
use Rattle.field.specs.CrossingLines.{OpenColumn, OpenRow, DrivenBy}
use Rattle.field.proofs.Geometry.Meeting as Meeting
use Rattle.meetings.specs.Promise.{MayJoin}
use Rattle.meetings.specs.Parts.{MayGo, Gone, MayGoBy}

module _ {w h : ℕ} (sides : Sides w h) {s g : List ℕ} {sx sy dx dy x y : ℕ} (k : MayJoin w h s g sx sy dx dy) (column : OpenColumn w h (Marked s w h) sx sy dx dy x)
    (row : OpenRow w h (Marked s w h) sx sy dx dy y) where
  abbrev C : ℕ → ℕ → Type 0
  C = Marked s w h

  on_map : OnMap w h C
  on_map x y m = m.on

  from_open : Open w h C sx sy
  from_open = record { on = k.may.from; free = λ c. k.ends (inl c) }

  to_open : Open w h C dx dy
  to_open = record { on = k.may.to; free = λ c. k.ends (inr c) }

  pub whole_drive : HasDrive w h C sx sy dx dy
  whole_drive =
      Meeting.lines_drive w h sides C on_map k.stable (marked_dec s w h) sx sy dx dy from_open to_open
      (record { column = x; row = y; column_open = column; row_open = row })

  first_drive : HasDrive w h C sx sy x y
  first_drive = Meeting.meeting_drive w h sides C on_map k.stable (marked_dec s w h) sx sy dx dy x y column row from_open

  second_drive : HasDrive w h C x y dx dy
  second_drive = Meeting.meeting_drive_end w h sides C on_map k.stable (marked_dec s w h) sx sy dx dy x y column row to_open

module _ {w h : ℕ} {s g : List ℕ} {sx sy dx dy x y : ℕ} {route : List ℕ} (sides : Sides w h) (k : MayGoBy w h s g sx sy dx dy x y route) where
  met_on : On w h x y
  met_on = (k.column.throughout y k.row.between).on

  direct : dist sx sy x y + dist x y dx dy ≡ dist sx sy dx dy
  direct = omega (arith, Meeting.gap_by sx x dx k.column.between, Meeting.gap_by sy y dy k.row.between)

  -- Each part may be gone.
  pub first_may : MayGo w h s g sx sy x y route
  first_may =
      let m = k.may.may in
      record {
        may = record { region = m.region; from = m.from; to = met_on };
        some = first_drive sides k.may k.column k.row;
        room = omega (arith, k.room, direct);
      }

  module _ {z z₁ : ℕ} {g₁ route₁ : List ℕ} (a : Gone w h s sx sy x y z g₁ route route₁ z₁) (same : length route₁ ≡ length route) where
    pub second_may : {part : List ℕ} → length part + dist sx sy x y ≡ length route → MayGo w h s g₁ x y dx dy part
    second_may l =
        let m = k.may.may in
        record {
          may = record { region = a.sheet.size; from = met_on; to = m.to };
          some = second_drive sides k.may k.column k.row;
          room = omega (arith, k.room, direct);
        }

    -- The first part's list, with the meeting crossing at its end.
    first_shortest : ShortestDrive w h (Marked s w h) sx sy x y (take (dist sx sy x y + 1) route₁)
    first_shortest = driven_shortest w h (Marked s w h) sx sy x y (first_drive sides k.may k.column k.row) a.driven

    module _ {j : ℕ} (e : j ≡ dist sx sy x y) where
      pub meeting_room : j < length route₁
      meeting_room = omega (arith, k.room, direct)

      first_list : take (dist sx sy x y + 1) route₁ ≡ take j route₁ ++ (number w x y ∷ [])
      first_list =
          let t : dist sx sy x y + 1 ≡ suc j = omega arith in
          ap (λ (i : ℕ). take i route₁) t
          ∙ take-suc route₁ j 0 meeting_room
          ∙ ap (λ (n : ℕ). take j route₁ ++ (n ∷ []))
          (ap (λ (i : ℕ). get_or route₁ i 0) e
          ∙ sym (get_or-take (dist sx sy x y + 1) route₁ (dist sx sy x y) 0 (omega arith))
          ∙ drive_end w h (Marked s w h) first_shortest.drive (dist sx sy x y) first_shortest.hops)

      module _ {m : ℕ} (f : m ≡ length route₁ - j) {z₂ : ℕ} {g₂ part : List ℕ} (b : Gone w h s x y dx dy z₁ g₂ (take m (drop j route₁)) part z₂) where
        abbrev onward : List ℕ
        onward = drop 1 (take (dist x y dx dy + 1) part)

        second_shortest : ShortestDrive w h (Marked s w h) x y dx dy (take (dist x y dx dy + 1) part)
        second_shortest = driven_shortest w h (Marked s w h) x y dx dy (second_drive sides k.may k.column k.row) b.driven

        second_list : take (dist x y dx dy + 1) part ≡ number w x y ∷ onward
        second_list = drive_head w h (Marked s w h) second_shortest.drive

        second_room : dist x y dx dy + 1 ≤ length part
        second_room = omega (arith, second_shortest.hops, length-take (dist x y dx dy + 1) part)

        -- The route after both parts.
        abbrev both : List ℕ
        both = take j route₁ ++ (part ++ drop m (drop j route₁))

        -- How many crossings there are, counted from where the second part begins.
        counted : dist sx sy dx dy + 1 ≡ length (take j route₁) + (dist x y dx dy + 1)
        counted = omega (arith, direct, length-take-le j route₁ (omega (arith, meeting_room)))

        both_front : take (dist sx sy dx dy + 1) both ≡ take (dist sx sy x y + 1) route₁ ++ onward
        both_front =
            ap (λ (i : ℕ). take i both) counted
            ∙ take-append-add (take j route₁) (part ++ drop m (drop j route₁)) (dist x y dx dy + 1)
            ∙ ap (λ (l : List ℕ). take j route₁ ++ l) (take-append-le (dist x y dx dy + 1) part (drop m (drop j route₁)) second_room ∙ second_list)
            ∙ sym (append_assoc (take j route₁) (number w x y ∷ []) onward)
            ∙ ap (λ (l : List ℕ). l ++ onward) (sym first_list)

        pub both_driven : DrivenBy w h (Marked s w h) sx sy dx dy x y z (take (dist sx sy dx dy + 1) both) z₂
        both_driven =
            record {
              first = take (dist sx sy x y + 1) route₁;
              onward = onward;
              handed_on = z₁;
              to_meeting = a.driven;
              from_meeting = rw second_list at b.driven;
              joined = both_front;
            }

        -- Nothing is left after the second part.
        nothing : drop m (drop j route₁) ≡ []
        nothing =
            let t : m ≡ length (drop j route₁) = omega (arith, length-drop j route₁) in
            ap (λ (i : ℕ). drop i (drop j route₁)) t ∙ drop-length (drop j route₁)

        -- From the second part's end on, the route is as both parts left it.
        onwards : (l : List ℕ) → drop (dist x y dx dy) (drop (dist sx sy x y + 1) l) ≡ drop (dist sx sy dx dy + 1) l
        onwards l =
            let t : dist sx sy x y + 1 + dist x y dx dy ≡ dist sx sy dx dy + 1 = omega (arith, direct) in
            drop-drop (dist x y dx dy) (dist sx sy x y + 1) l ∙ ap (λ (i : ℕ). drop i l) t

        from_meeting : (l : List ℕ) → drop (dist x y dx dy + 1) (drop j l) ≡ drop (dist sx sy dx dy + 1) l
        from_meeting l =
            let t : j + (dist x y dx dy + 1) ≡ dist sx sy dx dy + 1 = omega (arith, direct) in
            drop-drop (dist x y dx dy + 1) j l ∙ ap (λ (i : ℕ). drop i l) t

        pub both_rest : drop (dist sx sy dx dy + 1) both ≡ drop (dist sx sy dx dy + 1) route
        both_rest =
            ap (λ (i : ℕ). drop i both) counted
            ∙ drop-append-add (take j route₁) (part ++ drop m (drop j route₁)) (dist x y dx dy + 1)
            ∙ drop-append-le (dist x y dx dy + 1) part (drop m (drop j route₁)) second_room
            ∙ rw (nothing, append-nil, b.rest, take_all m (drop j route₁) (omega (arith, length-drop j route₁)))
            (from_meeting route₁ ∙ sym (onwards route₁) ∙ ap (drop (dist x y dx dy)) a.rest ∙ onwards route)
