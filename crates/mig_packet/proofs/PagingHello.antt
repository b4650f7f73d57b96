-- What a reader of pages makes of a whole hello.
use Rattle.std.proofs.Common.{◌≡◌, ℕ, ◌+◌, ◌<◌, ◌≤◌, Bool, List, [], ◌++◌, length, get_or, take, Option, Some, None, refl, sym, ap, ◌∙◌, inl, inr, arith}
use Rattle.std.proofs.lemmas.List.{length-append, length-take-le, get_or_default}
use Rattle.mig_packet.specs.declared.state.ChannelState.{ChannelState}
use Rattle.mig_packet.specs.declared.state.ChannelState.TheVariants.{Reading, Bad}
use Rattle.mig_packet.specs.declared.fault.ChannelFault.{ChannelFault}
use Rattle.mig_packet.specs.declared.page_reader.ChannelEvent.TheVariants as event
use Rattle.mig_packet.specs.Faults.{first_of}
use Rattle.mig_packet.specs.Hello.{hello_len, hello_faults}
use Rattle.mig_packet.specs.Progress.{judged_len}
use Rattle.mig_packet.specs.Reading.{Settings}
use Rattle.mig_packet.specs.Paging.{PageHolder, packet_in, kept_in, page_in, IsPart}
use Rattle.mig_packet.specs.PagingStep.{fault_of, Steps}

-- what a reader holds, by its parts
abbrev pub holder : Settings → Option ℕ → Bool → Option ℕ → Option ℕ → Bool → List ℕ → List ℕ → ChannelState → ℕ → Bool → PageHolder
holder given hello has_packets room pages has_page head page found fed ended = record {
  given = given;
  hello = hello;
  has_packets = has_packets;
  room = room;
  packet = packet_in pages head;
  kept = kept_in pages has_page head page;
  page = page_in has_page page;
  found = found;
  fed = fed;
  ended = ended;
}

whole : (given : Settings) (hello : Option ℕ) (bytes : List ℕ) → hello ≡ None → length bytes ≡ hello_len → length bytes ≡ judged_len given.page_size hello
whole given hello bytes none len = len ∙ sym (ap (judged_len given.page_size) none)

judged : (given : Settings) (hello room : Option ℕ) (bytes : List ℕ) → hello ≡ None
    → fault_of given hello room bytes ≡ first_of (hello_faults given.uuid given.channels bytes)
judged given hello room bytes none = ap (λ (h : Option ℕ). fault_of given h room bytes) none

-- bytes that were missing were taken
gained : (head head2 piece : List ℕ) (n : ℕ) → n ≤ length piece → head2 ≡ head ++ take n piece → length head < hello_len → length head2 ≡ hello_len → 0 < n
gained head head2 piece n le e few len = omega (arith, few, len, ap length e, length-append head (take n piece), length-take-le n piece le)

-- a hello with a fault ends the reading
pub hello_over : (given : Settings) (hello : Option ℕ) (has_packets : Bool) (room pages : Option ℕ) (has_page : Bool) (head page head2 piece : List ℕ)
    (found : ChannelState) (fed n : ℕ) (ended : Bool) (fault : ChannelFault) → packet_in pages head ≡ None → hello ≡ None → found ≡ Reading
    → n ≤ length piece → head2 ≡ head ++ take n piece → length head2 ≡ hello_len → first_of (hello_faults given.uuid given.channels head2) ≡ Some fault
    → Steps event.Over n piece (holder given hello has_packets room pages has_page head page found fed ended)
    (holder given hello has_packets room pages has_page head2 page (Bad fault) (fed + n) ended)
hello_over given hello has_packets room (Some i) has_page head page head2 piece found fed n ended fault begun none reading le e len faulty = absurd cc
hello_over given hello has_packets room None has_page head page head2 piece found fed n ended fault begun none reading le e len faulty =
    let same : head ++ take n piece ≡ head2 = sym e in
    record {
      takes = le;
      gains = tt;
      stops = inl (λ h. absurd cc, refl);
      copies = tt;
      moves = inr (
        fault,
        record {
          has_none_begun = refl;
          is_reading = reading;
          has_length = ap length same ∙ whole given hello head2 none len;
          has_fault = ap (fault_of given hello room) same ∙ judged given hello room head2 none ∙ faulty;
          leaves = ap (λ (x : List ℕ). holder given hello has_packets room None has_page x page (Bad fault) (fed + n) ended) e;
        },
      );
      has_fed = refl;
    }

-- a hello without a fault is read, and its id kept
pub hello_read : (given : Settings) (hello : Option ℕ) (has_packets : Bool) (room pages : Option ℕ) (has_page : Bool) (head page head2 head3 piece : List ℕ)
    (found : ChannelState) (fed n : ℕ) (ended : Bool) (id : ℕ) → packet_in pages head ≡ None → hello ≡ None → found ≡ Reading
    → IsPart given.page_size hello pages head (kept_in pages has_page head page) found
    → n ≤ length piece → head2 ≡ head ++ take n piece → length head2 ≡ hello_len → first_of (hello_faults given.uuid given.channels head2) ≡ None
    → id ≡ get_or head2 24 id → head3 ≡ []
    → Steps (event.Hello id) n piece (holder given hello has_packets room pages has_page head page found fed ended)
    (holder given (Some id) has_packets room pages has_page head3 page found (fed + n) ended)
hello_read given hello has_packets room (Some i) has_page head page head2 head3 piece found fed n ended id begun none reading part
    le e len free is empty = absurd cc
hello_read given hello has_packets room None has_page head page head2 head3 piece found fed n ended id begun none reading part le e len free is empty =
    let same : head ++ take n piece ≡ head2 = sym e in
    let few : length head < hello_len = omega (arith, part reading, ap (judged_len given.page_size) none) in
    record {
      takes = le;
      gains = gained head head2 piece n le e few len;
      stops = tt;
      copies = tt;
      moves = (
        none,
        record {
          has_none_begun = refl;
          is_reading = reading;
          has_length = ap length same ∙ whole given hello head2 none len;
          has_no_fault = ap (fault_of given hello room) same ∙ judged given hello room head2 none ∙ free;
        },
        is ∙ get_or_default head2 24 id 0 (omega (arith, len)) ∙ ap (λ (x : List ℕ). get_or x 24 0) e,
        ap (λ (x : List ℕ). holder given (Some id) has_packets room None has_page x page found (fed + n) ended) empty,
      );
      has_fed = refl;
    }
