-- What items leave as it was, rounds that were taken, and a reading that goes on.
use Rattle.std.proofs.Common.{◌≡◌, ◌≢◌, ℕ, leb, cond, Bool, true, false, List, [], ◌∷◌, ◌++◌, length, Option}
use Rattle.std.proofs.Common.{Some, None, refl, sym, ap, subst, ◌∙◌, inl, inr, append_assoc, arith}
use Rattle.std.proofs.lemmas.List.{append-nil, length-append}
use Rattle.std.proofs.lemmas.Bool.{le-leb, leb-true}
use Rattle.mig_packet.specs.declared.state.ChannelState.{ChannelState}
use Rattle.mig_packet.specs.declared.state.ChannelState.TheVariants.{Reading, Closed, Bad}
use Rattle.mig_packet.specs.declared.fault.ChannelFault.{ChannelFault}
use Rattle.mig_packet.specs.Faults.{first_of}
use Rattle.mig_packet.specs.Packet.{is_sync}
use Rattle.mig_packet.specs.Progress.{ChannelProgress, judged_len, faults, first_fault, due_fault, after_packet, after_item, after}
use Rattle.mig_packet.specs.Reading.{AreFaultless, after_all, Front, Ends, Reads}
use Rattle.mig_packet.specs.Later.{HasGrownBy, IsLater}
use Rattle.mig_packet.specs.Reader.{with_taken}
use Rattle.mig_packet.proofs.Fronts.{faults_stay, Front-append}

-- ---- rounds that were taken change nothing

faults-taken : (g : List (List (List ℕ))) (c : ChannelProgress) (h : Option ℕ) (bytes : List ℕ) → faults (with_taken g c) h bytes ≡ faults c h bytes
faults-taken g c None bytes = refl
faults-taken g c (Some id) bytes = refl

-- a packet, with SYNC or without
abbrev after_sync : Bool → ChannelProgress → List ℕ → ChannelProgress
after_sync sync c packet =
    cond sync (record c { packets = []; rounds = c.rounds ++ (c.packets ++ packet ∷ []) ∷ [] }) (record c { packets = c.packets ++ packet ∷ [] })

after_sync-taken : (g : List (List (List ℕ))) (c : ChannelProgress) (sync : Bool) (packet : List ℕ)
    → after_sync sync (with_taken g c) packet ≡ with_taken g (after_sync sync c packet)
after_sync-taken g c true packet =
    ap (λ (r : List (List (List ℕ))). record c { packets = []; rounds = r }) (append_assoc g c.rounds ((c.packets ++ packet ∷ []) ∷ []))
after_sync-taken g c false packet = refl

after_item-taken : (g : List (List (List ℕ))) (c : ChannelProgress) (h : Option ℕ) (item : List ℕ)
    → after_item (with_taken g c) h item ≡ with_taken g (after_item c h item)
after_item-taken g c None item = refl
after_item-taken g c (Some id) item = after_sync-taken g c (is_sync item) item

AreFaultless-taken : (g : List (List (List ℕ))) (c : ChannelProgress) (items : List (List ℕ)) → AreFaultless c items → AreFaultless (with_taken g c) items
AreFaultless-taken g c [] free = tt
AreFaultless-taken g c (item ∷ items) free = (
  free.0,
  ap first_of (faults-taken g c c.hello item) ∙ free.1,
  subst (λ (x : ChannelProgress). AreFaultless x items) (sym (after_item-taken g c c.hello item)) (AreFaultless-taken g (after c item) items free.2),
)

after_all-taken : (g : List (List (List ℕ))) (c : ChannelProgress) (items : List (List ℕ)) → after_all (with_taken g c) items ≡ with_taken g (after_all c items)
after_all-taken g c [] = refl
after_all-taken g c (item ∷ items) =
    ap (λ (x : ChannelProgress). after_all x items) (after_item-taken g c c.hello item) ∙ after_all-taken g (after c item) items

Front-taken : (g : List (List (List ℕ))) (c d : ChannelProgress) (bytes : List ℕ) → Front c bytes d → Front (with_taken g c) bytes (with_taken g d)
Front-taken g c d bytes f = record {
  items = f.items;
  has_bytes = f.has_bytes;
  are_faultless = AreFaultless-taken g c f.items f.are_faultless;
  leads_to = ap (with_taken g) f.leads_to ∙ sym (after_all-taken g c f.items);
}

due-taken : (g : List (List (List ℕ))) (c : ChannelProgress) (rest : List ℕ) → due_fault (with_taken g c) rest ≡ due_fault c rest
due-taken g c rest =
    ap (λ (x : List (Bool × ChannelFault)). cond (leb (judged_len c.page_size c.hello) (length rest)) (first_of x) None) (faults-taken g c c.hello rest)

Ends-taken : (g : List (List (List ℕ))) (c : ChannelProgress) (rest : List ℕ) (s : ChannelState) → Ends c rest s → Ends (with_taken g c) rest s
Ends-taken g c rest Reading e = (due-taken g c rest ∙ e.0, e.1)
Ends-taken g c rest Closed e = e
Ends-taken g c rest (Bad f) e = due-taken g c rest ∙ e

-- ---- a reading goes on

-- a fault that is due stays due
due_more : (b d : Bool) (x y : Option ChannelFault) (f : ChannelFault) → (b ≡ true → d ≡ true) → (b ≡ true → y ≡ x) → cond b x None ≡ Some f
    → cond d y None ≡ Some f
due_more true d x y f longer same e = ap (λ (z : Bool). cond z y None) (longer refl) ∙ same refl ∙ e
due_more false d x y f longer same e = absurd cc

-- a fault that is due stays if more bytes follow
pub due-append : (c : ChannelProgress) (rest piece : List ℕ) (f : ChannelFault) → due_fault c rest ≡ Some f → due_fault c (rest ++ piece) ≡ Some f
due-append c rest piece f e =
    let n = judged_len c.page_size c.hello in
    due_more (leb n (length rest)) (leb n (length (rest ++ piece))) (first_fault c rest) (first_fault c (rest ++ piece)) f
    (λ (t : leb n (length rest) ≡ true). le-leb n (length (rest ++ piece)) (omega (arith, leb-true n (length rest) t, length-append rest piece)))
    (λ (t : leb n (length rest) ≡ true). ap first_of (faults_stay c c.hello rest piece (leb-true n (length rest) t)))
    e

-- what follows a fault changes nothing
Ends-more : (c : ChannelProgress) (rest piece : List ℕ) (s : ChannelState) → s ≢ Reading → Ends c rest s → Ends c (rest ++ piece) s
Ends-more c rest piece Reading other e = absurd (other refl)
Ends-more c rest piece Closed other e = e
Ends-more c rest piece (Bad f) other e = due-append c rest piece f e

-- once the reading has ended, more bytes only lengthen the rest
pub Reads-more : (from : ChannelProgress) (text : List ℕ) (to : ChannelProgress) (rest piece : List ℕ) (s : ChannelState) → s ≢ Reading
    → Reads from text to rest s → Reads from (text ++ piece) to (rest ++ piece) s
Reads-more from text to rest piece s other r = record {
  front = r.front;
  has_text = ap (λ (x : List ℕ). x ++ piece) r.has_text ∙ append_assoc r.front rest piece;
  leads = r.leads;
  ends = Ends-more to rest piece s other r.ends;
}

-- what is read after a front, of the bytes that it left and those that come
pub Reads-on : (g : List (List (List ℕ))) (from mid to : ChannelProgress) (text kept piece rest : List ℕ) (s : ChannelState)
    → Reads from text (with_taken g mid) kept Reading → Reads mid (kept ++ piece) to rest s → Reads from (text ++ piece) (with_taken g to) rest s
Reads-on g from mid to text kept piece rest s r q = record {
  front = r.front ++ q.front;
  has_text = ap (λ (x : List ℕ). x ++ piece) r.has_text ∙ append_assoc r.front kept piece ∙ ap (λ (x : List ℕ). r.front ++ x) q.has_text
      ∙ sym (append_assoc r.front q.front rest);
  leads = Front-append from (with_taken g mid) (with_taken g to) r.front q.front r.leads (Front-taken g mid to q.front q.leads);
  ends = Ends-taken g to rest s q.ends;
}

-- ---- items only add to what was read before them

-- later, by these packets and maybe more
abbrev IsLaterBy : ChannelProgress → List (List ℕ) → ChannelProgress → Type 0
IsLaterBy old more new = (others : List (List ℕ)) × IsLater old (more ++ others) new

still_by : (old new : ChannelProgress) (more : List (List ℕ)) → HasGrownBy old more new → (others : List (List ℕ)) × HasGrownBy old (more ++ others) new
still_by old new more h = ([], subst (λ (x : List (List ℕ)). HasGrownBy old x new) (sym (append-nil more)) h)

-- one packet more, which may end the round
grown_packet : (old mid : ChannelProgress) (sync : Bool) (packet : List ℕ) (more : List (List ℕ)) → HasGrownBy old more mid
    → (others : List (List ℕ)) × HasGrownBy old (more ++ others) (after_sync sync mid packet)
grown_packet old mid true packet more (inl h) = (
  packet ∷ [],
  inr (
    [],
    ap (λ (x : List (List (List ℕ))). x ++ (mid.packets ++ packet ∷ []) ∷ []) h.0
        ∙ ap (λ (x : List (List ℕ)). old.rounds ++ x ∷ []) (ap (λ (x : List (List ℕ)). x ++ packet ∷ []) h.1 ∙ append_assoc old.packets more (packet ∷ [])),
  ),
)
grown_packet old mid true packet more (inr h) = still_by old (after_sync true mid packet) more (inr (
  h.0 ++ (mid.packets ++ packet ∷ []) ∷ [],
  ap (λ (x : List (List (List ℕ))). x ++ (mid.packets ++ packet ∷ []) ∷ []) h.1
      ∙ append_assoc old.rounds ((old.packets ++ more) ∷ h.0) ((mid.packets ++ packet ∷ []) ∷ []),
))
grown_packet old mid false packet more (inl h) =
    (packet ∷ [], inl (h.0, ap (λ (x : List (List ℕ)). x ++ packet ∷ []) h.1 ∙ append_assoc old.packets more (packet ∷ [])))
grown_packet old mid false packet more (inr h) = still_by old (after_sync false mid packet) more (inr h)

sync_page_size : (c : ChannelProgress) (sync : Bool) (packet : List ℕ) → (after_sync sync c packet).page_size ≡ c.page_size
sync_page_size c true packet = refl
sync_page_size c false packet = refl

sync_uuid : (c : ChannelProgress) (sync : Bool) (packet : List ℕ) → (after_sync sync c packet).uuid ≡ c.uuid
sync_uuid c true packet = refl
sync_uuid c false packet = refl

sync_channels : (c : ChannelProgress) (sync : Bool) (packet : List ℕ) → (after_sync sync c packet).channels ≡ c.channels
sync_channels c true packet = refl
sync_channels c false packet = refl

sync_waiting : (c : ChannelProgress) (sync : Bool) (packet : List ℕ) → (after_sync sync c packet).waiting ≡ c.waiting
sync_waiting c true packet = refl
sync_waiting c false packet = refl

later_packet : (old mid : ChannelProgress) (sync : Bool) (packet : List ℕ) (more : List (List ℕ)) → IsLater old more mid
    → IsLaterBy old more (after_sync sync mid packet)
later_packet old mid sync packet more l =
    let grown = grown_packet old mid sync packet more l.has_grown in (
      grown.0,
      record {
        same_page_size = sync_page_size mid sync packet ∙ l.same_page_size;
        same_uuid = sync_uuid mid sync packet ∙ l.same_uuid;
        same_channels = sync_channels mid sync packet ∙ l.same_channels;
        same_waiting = sync_waiting mid sync packet ∙ l.same_waiting;
        has_grown = grown.1;
      },
    )

later_step : (old mid : ChannelProgress) (h : Option ℕ) (item : List ℕ) (more : List (List ℕ)) → IsLater old more mid
    → IsLaterBy old more (after_item mid h item)
later_step old mid None item more l = (
  [],
  subst (λ (x : List (List ℕ)). IsLater old x (after_item mid None item)) (sym (append-nil more))
      (record {
        same_page_size = l.same_page_size;
        same_uuid = l.same_uuid;
        same_channels = l.same_channels;
        same_waiting = l.same_waiting;
        has_grown = l.has_grown;
      }),
)
later_step old mid (Some id) item more l = later_packet old mid (is_sync item) item more l

later_all : (old mid : ChannelProgress) (items : List (List ℕ)) (more : List (List ℕ)) → IsLater old more mid → IsLaterBy old more (after_all mid items)
later_all old mid [] more l = ([], subst (λ (x : List (List ℕ)). IsLater old x mid) (sym (append-nil more)) l)
later_all old mid (item ∷ items) more l =
    let first = later_step old mid mid.hello item more l in
    let all = later_all old (after mid item) items (more ++ first.0) first.1 in
    (first.0 ++ all.0, subst (λ (x : List (List ℕ)). IsLater old x (after_all (after mid item) items)) (append_assoc more first.0 all.0) all.1)

later_self : (c : ChannelProgress) → IsLater c [] c
later_self c = record { same_page_size = refl; same_uuid = refl; same_channels = refl; same_waiting = refl; has_grown = inl (refl, sym (append-nil c.packets)) }

-- a front leads to a later place
pub IsLater-front : (c d : ChannelProgress) (bytes : List ℕ) → Front c bytes d → IsLaterBy c [] d
IsLater-front c d bytes f = subst (λ (x : ChannelProgress). IsLaterBy c [] x) (sym f.leads_to) (later_all c c f.items [] (later_self c))

-- and so does one after a packet, which is the first of those that followed
pub IsLater-packet : (c mid d : ChannelProgress) (packet bytes : List ℕ) → mid ≡ after_packet c packet → Front mid bytes d → IsLaterBy c (packet ∷ []) d
IsLater-packet c mid d packet bytes e f =
    let first : IsLater c (packet ∷ []) mid = subst (λ (x : ChannelProgress). IsLater c (packet ∷ []) x) (sym e) (one_packet c (is_sync packet) packet) in
    subst (λ (x : ChannelProgress). IsLaterBy c (packet ∷ []) x) (sym f.leads_to) (later_all c mid f.items (packet ∷ []) first)
  where
    one_packet : (c : ChannelProgress) (sync : Bool) (packet : List ℕ) → IsLater c (packet ∷ []) (after_sync sync c packet)
    one_packet c true packet = record { same_page_size = refl; same_uuid = refl; same_channels = refl; same_waiting = refl; has_grown = inr ([], refl) }
    one_packet c false packet = record { same_page_size = refl; same_uuid = refl; same_channels = refl; same_waiting = refl; has_grown = inl (refl, refl) }
