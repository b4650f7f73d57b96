-- The statuses that calls return in addition to the numbers of faults.
use Rattle.std.specs.Prelude.{ℕ, List, ◌==◌, IsTrue}
use Rattle.std.specs.List.{list_any}

-- the call succeeded
abbrev pub done : ℕ
done = 0

-- an allocation was refused, and nothing has changed unless a clause says otherwise
abbrev pub no_memory : ℕ
no_memory = 60

-- the numbers of a sender's faults: more than 255 channels; a batch limit of 0 or above the pages
-- of a packet
abbrev pub channels : ℕ
channels = 61

abbrev pub batch_limit : ℕ
batch_limit = 62

-- the load continues: more bytes are needed
abbrev pub running : ℕ
running = 100

-- the number of the fault of a stream that ends before its end byte (`Truncated`)
abbrev pub stream_truncated : ℕ
stream_truncated = 34

-- ---- a refused call, which changes nothing

-- a page size other than 4096 and 8192
abbrev pub bad_page_size : ℕ
bad_page_size = 101

-- a load of more than 255 channels
abbrev pub bad_channels : ℕ
bad_channels = 103

-- no such source
abbrev pub bad_source : ℕ
bad_source = 104

-- the source was ended before
abbrev pub is_over : ℕ
is_over = 105

-- the source would have more bytes than can be counted
abbrev pub too_long : ℕ
too_long = 106

-- no page there
abbrev pub no_page : ℕ
no_page = 107

-- a buffer of another length than is needed
abbrev pub bad_length : ℕ
bad_length = 108

-- a call out of turn: a round is open, or none is, or the stream is ended, or the call is for a
-- send of the other kind
abbrev pub out_of_turn : ℕ
out_of_turn = 109

-- more pages than a packet has
abbrev pub too_many_pages : ℕ
too_many_pages = 110

-- a number that is no frame
abbrev pub bad_frame : ℕ
bad_frame = 113

-- a number that ends no rounds
abbrev pub bad_round_end : ℕ
bad_round_end = 114

-- a page is claimed for a packet that wasn't taken yet
abbrev pub is_claimed : ℕ
is_claimed = 115

-- bytes that are to be fed: they aren't the head of a packet that is taken apart
abbrev pub to_feed : ℕ
to_feed = 116

-- ----

-- no other status is returned
abbrev pub IsOneOf : List ℕ → ℕ → Type 0
IsOneOf statuses status = IsTrue (list_any (λ n. n == status) statuses)
