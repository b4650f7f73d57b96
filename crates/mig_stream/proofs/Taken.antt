-- The content of a page that a paused stream's caller has.
use Rattle.std.proofs.Common.{ℕ, ◌≡◌, ◌+◌, ◌-◌, ◌^◌, List, [], ◌∷◌, ◌++◌, length, Option, Some, None, refl, sym, ap, subst, ◌∙◌, arith}
use Rattle.std.specs.Prelude.{IfSome, min}
use Rattle.std.proofs.lemmas.List.{append-nil}
use Rattle.mig_mem.specs.declared.place.Place.{Place}
use Rattle.mig_stream.specs.declared.item.Filling.TheVariants.{Zero, Normal}
use Rattle.mig_stream.specs.declared.item.Due.{Due}
use Rattle.mig_stream.specs.declared.item.Due.TheVariants.{FileHeader, TypeByte, ConfigLength, ConfigName, StartHead, SectionHead, RecordHead, ListEntry}
use Rattle.mig_stream.specs.declared.item.Due.TheVariants.{PageSize, BlockName, Content, Footer, Passed, Nothing}
use Rattle.mig_stream.specs.declared.item.StreamState.TheVariants.{Reading}
use Rattle.mig_stream.specs.PageRecord.{PageRecord, page_record}
use Rattle.mig_stream.specs.Progress.{StreamProgress}
use Rattle.mig_stream.specs.Items.{size, first_fault, less_room, with_record, after}
use Rattle.mig_stream.specs.Reading.{Settings, IsItem, Front, Ends}
use Rattle.mig_stream.specs.Taking.{HasTakenTo}
use Rattle.mig_stream.specs.Giving.{Giver, GivenSoFar, with_more, Gives, Paused, giver_at, PausesAt}
use Rattle.mig_stream.specs.Wanted.{page_due, page_in}
use Rattle.mig_stream.proofs.Feeding.{front_item, is_due}
use Rattle.mig_stream.proofs.Fronts.{no_item}
use Rattle.mig_stream.proofs.Giver.{resumed, reads_behind, gives_more}

-- nothing is pending of it, and its content is due
pub due_page : (p : Paused) (place : Place) → page_due p ≡ Some place → (p.pending ≡ []) × (p.progress.due ≡ Content Normal place)
due_page p place is = go p.pending p.progress.due is
  where
    in_due : (due : Due) → page_in due ≡ Some place → due ≡ Content Normal place
    in_due (Content Normal there) e = cc
    in_due (Content Zero there) e = absurd cc
    in_due FileHeader e = absurd cc
    in_due (TypeByte b) e = absurd cc
    in_due ConfigLength e = absurd cc
    in_due (ConfigName n) e = absurd cc
    in_due StartHead e = absurd cc
    in_due SectionHead e = absurd cc
    in_due RecordHead e = absurd cc
    in_due ListEntry e = absurd cc
    in_due (PageSize last) e = absurd cc
    in_due (BlockName f page) e = absurd cc
    in_due Footer e = absurd cc
    in_due (Passed passed) e = absurd cc
    in_due Nothing e = absurd cc

    go : (pending : List ℕ) (due : Due) → page_due
        (record p { pending = pending; progress = record p.progress { due = due } }) ≡ Some place → (pending ≡ []) × (due ≡ Content Normal place)
    go [] due e = (refl, in_due due e)
    go (byte ∷ bytes) due e = absurd cc

-- the content is a complete item, which leaves its record
page_taken : (c : StreamProgress) (place : Place) (content : List ℕ) → c.due ≡ Content Normal place → length content ≡ c.page_size
    → HasTakenTo c content [] (with_record c place (Some content))
page_taken c place content due len =
    let whole : length content ≡ size c.page_size c.due content = len ∙ ap (λ (d : Due). size c.page_size d content) (sym due) in
    let item : IsItem c.page_size c.due content = record {
      is_due = λ none. (let bad : Content Normal place ≡ Nothing = sym due
          ∙ none in absurd cc);
      is_whole = whole;
    } in
    let faultless : first_fault c content ≡ None = ap (λ (d : Due). first_fault (record c { due = d }) content) due in
    let leads : Front c content (with_record c place (Some content)) =
    subst (Front c content) (ap (λ (d : Due). after (record c { due = d }) content) due) (front_item c content item faultless) in
    (content, sym (append-nil content), leads)

-- If the content is the caller's, its record was given.
pub took_page : (given : Settings) (text content : List ℕ) (so_far : GivenSoFar) (p q : Paused) (place : Place)
    → page_due p ≡ Some place → length content ≡ p.progress.page_size
    → p.progress.records ≡ [] → p.progress.rounds ≡ []
    → q.progress ≡ record p.progress { due = RecordHead; room = less_room p.progress.room } → q.pending ≡ p.pending
    → q.fed ≡ min (p.fed + length content) (2 ^ 64 - 1)
    → PausesAt given text so_far p → PausesAt given (text ++ content) (with_more (page_record place content ∷ []) so_far) q
took_page given text content so_far p q place due len no_records no_rounds progress pending fed at =
    let here = due_page p place due in
    let c : StreamProgress = p.progress in
    let before : Giver = record { progress = c; rest = content; found = None; given = (giver_at p).given; fed = q.fed } in
    let read : Giver = record { progress = with_record c place (Some content); rest = []; found = Some Reading; given = (giver_at p).given; fed = q.fed } in
    let resumes : Gives given (text ++ content) so_far before =
    resumed given text content so_far p before refl (ap (λ (x : List ℕ). x ++ content) (sym here.0)) refl fed at in
    let ends : Ends read.progress [] Reading = (is_due c.page_size RecordHead [] (omega arith), no_item c.page_size RecordHead [] (omega arith)) in
    let gives : Gives given (text ++ content) so_far read =
    reads_behind given (text ++ content) so_far before read (page_taken c place content here.1 len) ends refl resumes in
    gives_more given (text ++ content) so_far read (giver_at q) (page_record place content ∷ [])
    (ap (λ (x : List PageRecord). x ++ page_record place content ∷ []) (sym no_records))
    no_rounds (progress ∙ ap (λ (x : List PageRecord). record c { due = RecordHead; room = less_room c.room; records = x })
    no_records) (pending ∙ here.0) refl refl gives

-- the bytes of a page that was due are read: the reader has given one record more
pub took_each : (content : List ℕ) (p q : Paused) → length content ≡ p.progress.page_size → p.progress.records ≡ []
    → p.progress.rounds ≡ [] → q.progress ≡ record p.progress { due = RecordHead; room = less_room p.progress.room }
    → q.pending ≡ p.pending → q.fed ≡ min (p.fed + length content) (2 ^ 64 - 1)
    → IfSome (page_due p) (λ place. (given : Settings) (text : List ℕ) (so_far : GivenSoFar) → PausesAt given text so_far p
    → PausesAt given (text ++ content) (with_more (page_record place content ∷ []) so_far) q)
took_each content p q len no_records no_rounds progress pending fed = go (page_due p) refl
  where
    go : (o : Option Place) → page_due p ≡ o → IfSome o (λ place. (given : Settings) (text : List ℕ) (so_far : GivenSoFar) → PausesAt given text so_far p
        → PausesAt given (text ++ content) (with_more (page_record place content ∷ []) so_far) q)
    go None is = tt
    go (Some place) is = λ given text so_far at. took_page given text content so_far p q place is len no_records no_rounds progress pending fed at
